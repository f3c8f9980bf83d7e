-- `name_match::bytes_are_same` meets its contract. The bytes before i are the same; what is left of the name falls. Assumes nothing.
use Rattle.std.proofs.Common.{◌≡◌, sym, arith, length}
use Rattle.endian.proofs.Falsity.{false_true}
use Rattle.name_match.proofs.Comparing.{reads_other, same_none, same_next, fewer}
use Rattle.name_match.proofs.bytes_are_same.Goals as goal

pub loop-i-init : goal.loop-i-init
loop-i-init c =
    let args = c.args in
    (omega arith, same_none args.bytes.now args.from args.name.now 0)

pub returns-then-same_byte-eq0 : goal.returns-then-same_byte-eq0
returns-then-same_byte-eq0 c =
    let byte = c.same_byte.ensures in
    let args = c.args in
    (λ t. false_true t, λ f. reads_other args.bytes.now args.from args.name.now (omega arith) c.loop-i.i (omega arith) (byte.2 c.if-same_byte-eq0.true))

pub loop-i-preserved : goal.loop-i-preserved
loop-i-preserved c =
    let byte = c.same_byte in
    let args = c.args in
    let more = fewer 0 byte.result (omega arith) (λ none. c.if-same_byte-eq0.false (sym none)) in (
      omega arith,
      same_next args.bytes.now args.from args.name.now 0 c.loop-i.i c.loop-i.invariant.1 (byte.ensures.1 (omega arith)),
    )

pub returns : goal.returns
returns c =
    let whole : c.loop-i.i ≡ length c.args.name.now = omega arith in
    (λ t. rw whole at c.loop-i.invariant.1, λ f. false_true (sym f))
