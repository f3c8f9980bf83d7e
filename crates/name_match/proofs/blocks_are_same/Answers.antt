-- `name_match::blocks_are_same` meets its contract. The bytes before i are the same; what is left of the name falls. Assumes nothing.
use Rattle.std.proofs.Common.{◌-◌, ◌+◌, ◌≡◌, sym, arith, le_refl, length, rules}
use Rattle.endian.proofs.Falsity.{false_true}
use Rattle.name_match.proofs.Comparing.{same_none, same_join}
use Rattle.name_match.proofs.blocks_are_same.Goals as goal

pub block_is_same-requires : goal.block_is_same-requires
block_is_same-requires c = (search rules, omega arith)

pub returns-then-not-block_is_same : goal.returns-then-not-block_is_same
returns-then-not-block_is_same c = (λ t. false_true t, λ f. c.block_is_same.ensures.1 c.if-not-block_is_same.true)

pub loop-i-init : goal.loop-i-init
loop-i-init c =
    let args = c.args in
    (omega arith, same_none args.bytes.now args.from args.name.now 0)

pub block_is_same-requires-in-loop-i : goal.block_is_same-requires-in-loop-i
block_is_same-requires-in-loop-i c = (search rules, omega arith)

pub returns-then-not-block_is_same-2 : goal.returns-then-not-block_is_same-2
returns-then-not-block_is_same-2 c = (λ t. false_true t, λ f. c.block_is_same-in-loop-i.ensures.1 c.if-not-block_is_same-2.true)

pub loop-i-preserved : goal.loop-i-preserved
loop-i-preserved c =
    let args = c.args in
    let i = c.loop-i.i in
    let block = c.block_is_same-in-loop-i.ensures.0 c.if-not-block_is_same-2.false in
    (omega arith, same_join args.bytes.now args.from args.name.now 0 i i (i + 8) (le_refl _) c.loop-i.invariant.1 block)

pub returns : goal.returns
returns c =
    let args = c.args in
    let n = length args.name.now in
    let ends : n - 8 + 8 ≡ n = omega arith in
    let last = rw ends at (c.block_is_same.ensures.0 c.if-not-block_is_same.false) in (
      λ t. same_join args.bytes.now args.from args.name.now 0 c.loop-i.i (n - 8) n (omega arith) c.loop-i.invariant.1 last,
      λ f. false_true (sym f),
    )
