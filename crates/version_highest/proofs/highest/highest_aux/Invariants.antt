-- `version_highest::highest::highest_aux` meets its contract. The invariant: going on over the rest, from here, gives the answer
-- for the whole chain. A record that is its own next gives nothing higher the second time. Assumes nothing.
use Rattle.std.proofs.Common.{◌≡◌, ◌-◌}
use Rattle.version_records.specs.Outcome.{folded}
use Rattle.version_records.specs.Walk.{collect}
use Rattle.version_records.specs.Records.{vernauxs}
use Rattle.version_highest.specs.Highest.{aux_indices, need_indices, higher_of}
use Rattle.version_highest.proofs.highest.highest_aux.Given as goal

abbrev pub invariant-loop : goal.invariant-loop
invariant-loop l =
    folded higher_of l.high (collect (aux_indices l.order l.s) (vernauxs l.order l.s (l.end - l.counter) l.at))
    ≡ folded higher_of l.fn.known (need_indices l.order l.s l.fn.need)
