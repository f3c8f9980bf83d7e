-- The second pass (01, module 5): the versions that the lists store, with their indices.
--     need_entries    what a need stores
--     entries         what the definitions store, then what the needs store
-- Assumes nothing.
use Rattle.std.specs.Prelude.{ℕ, List}
use Rattle.endian.specs.declared.kinds.Order.{Order}
use Rattle.version_layout.specs.Layouts.{field_of, verneed}
use Rattle.version_layout.specs.declared.steps.Record.{Record}
use Rattle.version_records.specs.Outcome.{Outcome, both}
use Rattle.version_records.specs.Walk.{collect}
use Rattle.version_records.specs.Records.{verdefs, verneeds, vernauxs, need_count}
use Rattle.version_entries.specs.Entries.{def_entries, aux_entries}
use Rattle.version.specs.declared.store.Stored.{Stored}

abbrev pub need_entries : Order → (s strings : List ℕ) → Record → Outcome (List Stored)
need_entries order s strings r =
    collect (aux_entries order s strings (field_of order s r.at verneed.file))
    (vernauxs order s (need_count order s r) r.aux)

abbrev pub entries : Order → (verdef verneed strings : List ℕ) → Outcome (List Stored)
entries order verdef verneed strings =
    both (collect (def_entries order verdef strings) (verdefs order verdef 0))
    (collect (need_entries order verneed strings) (verneeds order verneed 0))
