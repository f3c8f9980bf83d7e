-- `zero_search::first_zero` meets its contract: past the end, and where a zero stands at the place itself, the place is answered. Assumes nothing.
use Rattle.std.proofs.Common.{arith, rules}
use Rattle.endian.specs.First.{is_zero}
use Rattle.endian.proofs.First.{first_here, first_end}
use Rattle.zero_search.proofs.first_zero.Goals as goal
use Rattle.zero_search.proofs.first_zero.Goals.{then-bytes-from-via-then-bytes-from, then-bytes-from-via-else-bytes-from+then-bytes-from-eq0}

pub returns-then-bytes-from : goal.returns-then-bytes-from
returns-then-bytes-from c = elim c.then-bytes-from.branch [
  | then-bytes-from-via-then-bytes-from w ↦ omega (arith, first_end is_zero c.args.bytes.now c.args.from (search rules))
  | then-bytes-from-via-else-bytes-from+then-bytes-from-eq0 w ↦ omega (arith, first_here is_zero c.args.bytes.now c.args.from (search rules) (search rules))
]
