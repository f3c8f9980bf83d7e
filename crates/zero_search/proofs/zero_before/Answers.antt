-- `zero_search::zero_before` meets its contract: a zero at i is the first, another byte is passed over. Assumes nothing.
use Rattle.std.proofs.Common.{arith, rules}
use Rattle.endian.specs.First.{is_zero}
use Rattle.endian.proofs.First.{first_here, first_next}
use Rattle.zero_search.proofs.zero_before.Goals as goal

pub returns-then-bytes-i-eq0-clause-found : goal.returns-then-bytes-i-eq0-clause-found
returns-then-bytes-i-eq0-clause-found c less =
    omega (arith, first_here is_zero c.args.bytes.now c.loop-i.i (search rules) (search rules))

pub loop-i-preserved : goal.loop-i-preserved
loop-i-preserved c =
    let next = first_next is_zero c.args.bytes.now c.loop-i.i (search rules) (search rules) in
    (omega arith, omega arith, omega (arith, c.loop-i.invariant.2, next))
