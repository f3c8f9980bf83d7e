-- `version_parse::fill::fill_auxs` meets its contract. The invariant: filling from the rest, from here, gives the answer for
-- the whole chain; the store keeps its length and has room for the rest. A record that is its own next stores the same the
-- second time. Assumes nothing.
use Rattle.std.proofs.Common.{◌≡◌, ◌-◌, length}
use Rattle.version_records.specs.Outcome.{folded}
use Rattle.version_records.specs.Walk.{collect}
use Rattle.version.specs.Store.{put_entry}
use Rattle.version_records.specs.Records.{vernauxs}
use Rattle.version_entries.specs.Entries.{aux_entries}
use Rattle.version_parse.specs.SecondPass.{need_entries}
use Rattle.version_parse.specs.Room.{All, AuxRoom}
use Rattle.version_parse.proofs.fill.fill_auxs.Given as goal

abbrev pub invariant-loop : goal.invariant-loop
invariant-loop l =
    (length l.store ≡ length l.initial.store)
    × All (AuxRoom l.order l.s (length l.initial.store)) (vernauxs l.order l.s (l.end - l.counter) l.at)
    × (folded put_entry l.store (collect (aux_entries l.order l.s l.strings l.file) (vernauxs l.order l.s (l.end - l.counter) l.at))
    ≡ folded put_entry l.initial.store (need_entries l.order l.s l.strings l.fn.need))
