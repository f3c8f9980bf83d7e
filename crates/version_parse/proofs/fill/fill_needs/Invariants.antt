-- `version_parse::fill::fill_needs` meets its contract. The invariant: filling from the rest, from here, gives the answer for
-- the whole list; the store keeps its length and has room for the rest. The measure is what is left of the bytes.
-- Assumes nothing.
use Rattle.std.proofs.Common.{◌-◌, ◌≡◌, length}
use Rattle.version_records.specs.Outcome.{folded}
use Rattle.version_records.specs.Walk.{collect}
use Rattle.version.specs.Store.{put_entry}
use Rattle.version_records.specs.Records.{verneeds}
use Rattle.version_parse.specs.SecondPass.{need_entries}
use Rattle.version_parse.specs.Room.{All, NeedRoom}
use Rattle.version_parse.proofs.fill.fill_needs.Given as goal

abbrev pub invariant-loop-at : goal.invariant-loop-at
invariant-loop-at l =
    (length l.store ≡ length l.initial.store)
    × (folded put_entry l.store (collect (need_entries l.order l.s l.strings) (verneeds l.order l.s l.at))
    ≡ folded put_entry l.initial.store (collect (need_entries l.order l.s l.strings) (verneeds l.order l.s 0)))
    × All (NeedRoom l.order l.s (length l.initial.store)) (verneeds l.order l.s l.at)

abbrev pub decreases-loop-at : goal.decreases-loop-at
decreases-loop-at l = length l.s - l.at
