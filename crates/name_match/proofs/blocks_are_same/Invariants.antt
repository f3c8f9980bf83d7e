-- `name_match::blocks_are_same` meets its contract. The bytes before i are the same; what is left of the name falls. Assumes nothing.
use Rattle.std.proofs.Common.{◌≤◌, ◌-◌, length}
use Rattle.name_match.specs.Same.{SameFrom}
use Rattle.name_match.proofs.blocks_are_same.Given as goal

abbrev pub invariant-loop-i : goal.invariant-loop-i
invariant-loop-i l = (l.i ≤ length l.name) × SameFrom l.bytes l.from l.name 0 l.i

abbrev pub decreases-loop-i : goal.decreases-loop-i
decreases-loop-i l = length l.name - l.i
