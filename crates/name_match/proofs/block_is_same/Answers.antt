-- `name_match::block_is_same` meets its contract. No more than k bytes are the same; if fewer are, the name is not there. Assumes nothing.
use Rattle.std.proofs.Common.{◌+◌, ◌≡◌, sym, ◌∙◌, arith, add-zero, eqb-true}
use borrow.Author.Tests.{eqb-false}
use Rattle.name_match.proofs.Comparing.{reads_other, same_none, same_next, fewer, missed}
use Rattle.name_match.proofs.block_is_same.Goals as goal

pub loop-k-init : goal.loop-k-init
loop-k-init c =
    let args = c.args in
    (omega arith, omega arith, λ none. rw add-zero (same_none args.bytes.now args.from args.name.now args.i), λ less. absurd (omega arith))

pub loop-k-preserved : goal.loop-k-preserved
loop-k-preserved c =
    let args = c.args in
    let s = args.bytes.now in
    let name = args.name.now in
    let i = args.i in
    let k = c.loop-k.k in
    let so_far = c.loop-k.invariant in
    let byte = c.same_byte-same.ensures in
    let on : i + (k + 1) ≡ i + k + 1 = omega arith in (
      omega arith,
      omega arith,
      λ all. rw on (same_next s args.from name i (i + k) (so_far.2 (omega arith)) (byte.1 (omega arith))),
      λ less.
          missed c.loop-k.same c.same_byte-same.result k less so_far.3
          (λ none. reads_other s args.from name (omega arith) (i + k) (omega arith) (byte.2 none)),
    )

pub returns : goal.returns
returns c =
    let at-loop = c.loop-k in
    let whole : at-loop.k ≡ 8 = omega arith in (
      λ all. rw whole at (at-loop.invariant.2 (eqb-true _ _ all ∙ sym whole)),
      λ other.
          let less = fewer at-loop.same 8 (omega arith) (eqb-false _ _ other) in
          at-loop.invariant.3 (omega arith),
    )
