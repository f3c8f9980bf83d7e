-- What a record stores (01, module 5): its version, with its index.
--     part_at                     the string at an offset, with the refusal where there is none
--     def_version, passed_over    of a definition: its version (11, 12, 18), and whether it stores nothing
--     need_version                of a needed version (20, then 19)
--     storing                     what a record stores: nothing if it is passed over
--     def_entries, aux_entries    what a definition, a needed version store
-- Assumes nothing.
use Rattle.std.specs.Prelude.{ℕ, List, [], ◌∷◌, Bool, true, false, ◌||◌, eqb, Result, Ok, Err}
use Rattle.endian.specs.declared.kinds.Order.{Order}
use Rattle.endian.specs.declared.refusals.Refusal.{Refusal}
use Rattle.endian.specs.Refusals.{bad_verdaux_name, bad_verneed_file, bad_vernaux_name}
use Rattle.strings.specs.Strings.{string_at}
use Rattle.strings.specs.declared.Place.{Place}
use Rattle.version.specs.Index.{is_special}
use Rattle.version_layout.specs.Layouts.{field_of, verdef, verdaux, vernaux}
use Rattle.version_records.specs.Outcome.{Outcome, bind}
use Rattle.version_records.specs.Records.{verdaux_shape, aux_at}
use Rattle.version_layout.specs.Indices.{def_index, need_index, is_base}
use Rattle.version.specs.Store.{no_file}
use Rattle.version.specs.declared.store.Stored.{Stored}
use Rattle.version.specs.declared.index.VersionIndex.{VersionIndex}
use Rattle.version_layout.specs.declared.steps.Record.{Record}
use Rattle.version_layout.specs.declared.steps.Aux.{Aux}
use Rattle.version.specs.declared.store.Part.{Part}
use Rattle.version.specs.declared.store.Version.{Version}

-- of what was read at an offset
abbrev pub read_part : Refusal → Result Place Refusal → Outcome Part
read_part e (Ok place) = Ok (record { start = place.start; len = place.len })
read_part e (Err r) = Err e

unfoldable pub part_at : Refusal → List ℕ → ℕ → Outcome Part
part_at e strings offset = read_part e (string_at strings offset)

-- its first aux, and that one's name
unfoldable pub def_version : Order → (s strings : List ℕ) → Record → Outcome Version
def_version order s strings d =
    bind (aux_at verdaux_shape order s d.aux) (λ a.
    bind (part_at bad_verdaux_name strings (field_of order s a.at verdaux.name)) (λ name.
    Ok (record { kind = 1; hash = field_of order s d.at verdef.hash; name = name; file = no_file })))

-- flagged base, or a special index, or no aux
abbrev pub passed_over : Order → List ℕ → Record → Bool
passed_over order s d =
    is_base order s d || (is_special (def_index order s d.at) || eqb (field_of order s d.at verdef.cnt) 0)

-- nothing where the record is passed over, else its version
abbrev pub storing : (passed : Bool) → VersionIndex → Outcome Version → Outcome (List Stored)
storing true index version = Ok []
storing false index version = bind version (λ v. Ok (record { index = index; version = v } ∷ []))

abbrev pub def_entries : Order → (s strings : List ℕ) → Record → Outcome (List Stored)
def_entries order s strings d = storing (passed_over order s d) (def_index order s d.at) (def_version order s strings d)

unfoldable pub need_version : Order → (s strings : List ℕ) → (file : ℕ) → Aux → Outcome Version
need_version order s strings file a =
    bind (part_at bad_vernaux_name strings (field_of order s a.at vernaux.name)) (λ name.
    bind (part_at bad_verneed_file strings file) (λ part.
    Ok (record { kind = 2; hash = field_of order s a.at vernaux.hash; name = name; file = part })))

-- a special index stores nothing
abbrev pub aux_entries : Order → (s strings : List ℕ) → (file : ℕ) → Aux → Outcome (List Stored)
aux_entries order s strings file a =
    storing (is_special (need_index order s a.at)) (need_index order s a.at) (need_version order s strings file a)
