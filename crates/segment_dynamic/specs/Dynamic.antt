-- The dynamic entries of a segment (01, module 7; gABI, "Dynamic Section").
--     dynamic_size       the bytes of an entry
--     segment_dynamic    the part of the file that holds the entries, and how many whole ones there are
--     dynamic_of         the entry at a place: both fields unsigned
--     dynamic_entry      the entry of a number
-- Assumes nothing.
use Rattle.std.specs.Prelude.{ℕ, ◌+◌, ◌*◌, ◌/◌, cond, not, List, eqb, leb, ltb, length, Result, Ok, Err, Option, Some, None}
use Rattle.endian.specs.declared.kinds.Class.{Class}
use Rattle.endian.specs.declared.kinds.Class.TheVariants.{Elf32, Elf64}
use Rattle.endian.specs.declared.kinds.Order.{Order}
use Rattle.endian.specs.declared.refusals.Refusal.{Refusal}
use Rattle.endian.specs.Refusals.{limit, too_long, bad_dynamic_place}
use Rattle.endian.specs.Word.{field_at}
use Rattle.segment_data.specs.Part.{is_in_file}
use Rattle.segment_entry.specs.declared.Segment.{Segment}
use Rattle.segment_dynamic.specs.declared.dynamic.DynamicPart.{DynamicPart}
use Rattle.segment_dynamic.specs.declared.dynamic.DynamicEntry.{DynamicEntry}

abbrev pub dynamic_size : Class → ℕ
dynamic_size Elf32 = 8
dynamic_size Elf64 = 16

-- only for type PT_DYNAMIC, which is 2
abbrev pub segment_dynamic : Class → List ℕ → Segment → Result (Option DynamicPart) Refusal
segment_dynamic class file segment =
    cond (ltb limit (length file)) (Err too_long)
    (cond (not (eqb segment.kind 2)) (Ok None)
    (cond (is_in_file file segment) (Ok (Some (record {
      place = record { start = segment.offset; len = segment.filesz };
      count = segment.filesz / dynamic_size class;
    })))
    (Err bad_dynamic_place)))

-- Dyn32 and Dyn64 of document 01: the width of each field, and where it stands
abbrev pub dynamic_of : Class → Order → List ℕ → (base : ℕ) → DynamicEntry
dynamic_of Elf32 order s base = record { tag = field_at order s base 4 0; value = field_at order s base 4 4 }
dynamic_of Elf64 order s base = record { tag = field_at order s base 8 0; value = field_at order s base 8 8 }

-- a number past the whole entries has none
unfoldable pub dynamic_entry : Class → Order → List ℕ → (number : ℕ) → Result (Option DynamicEntry) Refusal
dynamic_entry class order s number =
    cond (ltb limit (length s)) (Err too_long)
    (cond (leb ((number + 1) * dynamic_size class) (length s)) (Ok (Some (dynamic_of class order s (number * dynamic_size class))))
    (Ok None))
