-- `name_match::block_is_same` meets its contract. No more than k bytes are the same; if fewer are, the name is not there. Assumes nothing.
use Rattle.std.proofs.Common.{◌≤◌, ◌<◌, ◌-◌, ◌+◌, ◌≡◌, false, drop}
use Rattle.name_match.specs.Reads.{reads}
use Rattle.name_match.specs.Same.{SameFrom}
use Rattle.name_match.proofs.block_is_same.Given as goal

abbrev pub invariant-loop-k : goal.invariant-loop-k
invariant-loop-k l =
    (l.k ≤ 8) × (l.same ≤ l.k) × (l.same ≡ l.k → SameFrom l.bytes l.from l.name l.i (l.i + l.k)) × (l.same < l.k → reads (drop l.from l.bytes) l.name ≡ false)

abbrev pub decreases-loop-k : goal.decreases-loop-k
decreases-loop-k l = 8 - l.k
