-- The index that a record of the version sections names, and what a definition's flags say (01, module 5).
--     def_index     of the definition at a place: its whole 16 bits
--     need_index    of the needed version at a place: its low 15 bits
--     is_base       of a definition: flagged base (value 1)
-- Assumes nothing.
use Rattle.std.specs.Prelude.{ℕ, ◌%◌, Bool, List, eqb}
use Rattle.endian.specs.declared.kinds.Order.{Order}
use Rattle.version.specs.declared.index.VersionIndex.{VersionIndex}
use Rattle.version_layout.specs.Layouts.{field_of, verdef, vernaux}
use Rattle.version_layout.specs.declared.steps.Record.{Record}

abbrev pub def_index : Order → List ℕ → (at : ℕ) → VersionIndex
def_index order s at = record { 0 = field_of order s at verdef.ndx }

abbrev pub need_index : Order → List ℕ → (at : ℕ) → VersionIndex
need_index order s at = record { 0 = field_of order s at vernaux.other % 0x8000 }

abbrev pub is_base : Order → List ℕ → Record → Bool
is_base order s r = eqb (field_of order s r.at verdef.flags % 2) 1
