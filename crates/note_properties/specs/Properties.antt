-- Whether a note holds GNU properties (01, module 4).
--     gnu, is_gnu                       the bytes of `GNU`, and whether the trimmed name is that
--     property_start, gnu_properties    the reader before the first property, and the same if the note is of this kind
-- Assumes nothing.
use Rattle.std.specs.Prelude.{ℕ, Bool, cond, ◌&&◌, List, [], ◌∷◌, eqb, Result, Ok, Err, Option, Some, None}
use Rattle.endian.specs.declared.kinds.Class.{Class}
use Rattle.endian.specs.declared.kinds.Order.{Order}
use Rattle.endian.specs.declared.refusals.Refusal.{Refusal}
use Rattle.endian.specs.Refusals.{any_long, too_long}
use Rattle.endian.specs.First.{same}
use Rattle.note_name.specs.Trim.{trimmed_of}
use Rattle.property_reader.specs.declared.PropertyReader.{PropertyReader}

abbrev pub property_start : Class → Order → PropertyReader
property_start class order = record { class = class; order = order; at = 0 }

abbrev pub gnu : List ℕ
gnu = 71 ∷ 78 ∷ 85 ∷ []

unfoldable pub is_gnu : List ℕ → Bool
is_gnu name = same (trimmed_of name) gnu

-- only for type 5 and trimmed name `GNU`
abbrev pub gnu_properties : Class → Order → (kind : ℕ) → (name descriptor : List ℕ) → Result (Option PropertyReader) Refusal
gnu_properties class order kind name descriptor =
    cond (any_long (name ∷ descriptor ∷ [])) (Err too_long)
    (cond (eqb kind 5 && is_gnu name) (Ok (Some (property_start class order))) (Ok None))
