-- `version_highest::highest::highest_need` meets its contract. The invariant: going on over the rest, from here, gives the
-- answer for the whole list. The measure is what is left of the bytes, since each record lies past the one before.
-- Assumes nothing.
use Rattle.std.proofs.Common.{◌-◌, ◌≡◌, length}
use Rattle.version_records.specs.Outcome.{folded}
use Rattle.version_records.specs.Walk.{collect}
use Rattle.version_records.specs.Records.{verneeds}
use Rattle.version_highest.specs.Highest.{need_indices, higher_of}
use Rattle.version_highest.proofs.highest.highest_need.Given as goal

abbrev pub invariant-loop-at : goal.invariant-loop-at
invariant-loop-at l =
    folded higher_of l.high (collect (need_indices l.order l.s) (verneeds l.order l.s l.at))
    ≡ folded higher_of l.initial.high (collect (need_indices l.order l.s) (verneeds l.order l.s 0))

abbrev pub decreases-loop-at : goal.decreases-loop-at
decreases-loop-at l = length l.s - l.at
