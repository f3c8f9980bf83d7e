-- GNU properties (01, module 4): type 4, size 4, data, padding.
--     property_align        8 in ELF64, 4 in ELF32
--     property_reader_at    the same reader at another place
--     property_size         its second field: the bytes of its data
--     property_next         where the next property starts, from this one's own start
--     property_of           the property at a reader's place; its type is the first field
--     property_step         what a step finds
--     property_number       a property's data as a number
-- Assumes nothing.
use Rattle.std.specs.Prelude.{ℕ, ◌+◌, cond, List, leb, ltb, length, Result, Ok, Err, Option, Some, None}
use Rattle.endian.specs.declared.kinds.Class.{Class}
use Rattle.endian.specs.declared.kinds.Class.TheVariants.{Elf32, Elf64}
use Rattle.endian.specs.declared.kinds.Order.{Order}
use Rattle.endian.specs.declared.refusals.Refusal.{Refusal}
use Rattle.endian.specs.Refusals.{limit, too_long, bad_property, short_property_number}
use Rattle.endian.specs.Word.{word_at, field_at}
use Rattle.note.specs.Notes.{aligned}
use Rattle.note.specs.declared.reader.Align.{Align}
use Rattle.note.specs.declared.reader.Align.TheVariants.{Four, Eight}
use Rattle.property_reader.specs.declared.PropertyReader.{PropertyReader}
use Rattle.property_reader.specs.declared.Property.{Property}

abbrev pub property_align : Class → Align
property_align Elf32 = Four
property_align Elf64 = Eight

abbrev pub property_reader_at : PropertyReader → ℕ → PropertyReader
property_reader_at reader place = record { class = reader.class; order = reader.order; at = place }

abbrev pub property_size : PropertyReader → List ℕ → ℕ
property_size reader s = field_at reader.order s reader.at 4 4

abbrev pub property_next : PropertyReader → List ℕ → ℕ
property_next reader s = aligned (property_align reader.class) (8 + property_size reader s)

abbrev pub property_of : PropertyReader → List ℕ → Property
property_of reader s =
    record { kind = field_at reader.order s reader.at 4 0; start = reader.at + 8; size = property_size reader s }

-- the padding must be present: a property is whole if the bytes reach to where the next one starts
unfoldable pub property_step : PropertyReader → List ℕ → Result (Option Property) Refusal
property_step reader s =
    cond (ltb limit (length s)) (Err too_long)
    (cond (leb (length s) reader.at) (Ok None)
    (cond (ltb (length s) (reader.at + property_next reader s)) (Err bad_property)
    (Ok (Some (property_of reader s)))))

-- its first 4 bytes in the file's order
abbrev pub property_number : Order → List ℕ → Result ℕ Refusal
property_number order s =
    cond (ltb limit (length s)) (Err too_long)
    (cond (ltb (length s) 4) (Err short_property_number)
    (Ok (word_at order 4 s 0)))
