-- `zero_search::zero_before` meets its contract: no zero stands up to i; what is left before the end falls. Assumes nothing.
use Rattle.std.proofs.Common.{◌≡◌, ◌-◌, ◌≤◌}
use Rattle.zero_search.specs.Zeros.{first_zero}
use Rattle.zero_search.proofs.zero_before.Given as goal

abbrev pub invariant-loop-i : goal.invariant-loop-i
invariant-loop-i l = (l.from ≤ l.i) × (l.i ≤ l.end) × (first_zero l.bytes l.from ≡ first_zero l.bytes l.i)

abbrev pub decreases-loop-i : goal.decreases-loop-i
decreases-loop-i l = l.end - l.i
