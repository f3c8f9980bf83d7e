-- Need not be believed: a store of n numbers has room for what the records of a list store. Inner contracts cite it.
--     All                          what holds of every record of a walk
--     EntryRoom                    room for what a record stores
--     DefRoom, AuxRoom, NeedRoom   room for a definition, a needed version, a need
-- Assumes nothing.
use Rattle.std.specs.Prelude.{ℕ, ◌≤◌, ◌≡◌, List, false, Option, Some, None}
use Rattle.endian.specs.declared.kinds.Order.{Order}
use Rattle.version_records.specs.Walk.{Walk}
use Rattle.version_records.specs.Walk.Walk.{end, broken, more}
use Rattle.version_records.specs.Records.{vernauxs, need_count}
use Rattle.version_layout.specs.Indices.{def_index, need_index, is_base}
use Rattle.version.specs.Store.{store_needs}
use Rattle.version_layout.specs.declared.steps.Record.{Record}
use Rattle.version.specs.declared.store.Stored.{Stored}
use Rattle.version_layout.specs.declared.steps.Aux.{Aux}

abbrev pub All : {A : Type 0} → (A → Type 0) → Walk A → Type 0
All P end = Unit {0}
All P (broken e) = Unit {0}
All P (more a w) = P a × All P w

abbrev pub EntryRoom : (n : ℕ) → Option Stored → Type 0
EntryRoom n None = Unit {0}
EntryRoom n (Some stored) = store_needs stored.index ≤ n

abbrev pub DefRoom : Order → List ℕ → (n : ℕ) → Record → Type 0
DefRoom order s n d = is_base order s d ≡ false → store_needs (def_index order s d.at) ≤ n

abbrev pub AuxRoom : Order → List ℕ → (n : ℕ) → Aux → Type 0
AuxRoom order s n a = store_needs (need_index order s a.at) ≤ n

abbrev pub NeedRoom : Order → List ℕ → (n : ℕ) → Record → Type 0
NeedRoom order s n r = All (AuxRoom order s n) (vernauxs order s (need_count order s r) r.aux)
