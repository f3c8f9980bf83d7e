-- A table of program headers, as the gABI and document 01's "Layouts" lay them out.
--     segment_size     the bytes of a record
--     segment_of       the fields of the record at a place
--     segment_count    how many whole records there are
--     segment_at       the segment of a number
-- Assumes nothing.
use Rattle.std.specs.Prelude.{ℕ, ◌+◌, ◌*◌, ◌/◌, cond, List, leb, ltb, length, Result, Ok, Err}
use Rattle.endian.specs.declared.kinds.Class.{Class}
use Rattle.endian.specs.declared.kinds.Class.TheVariants.{Elf32, Elf64}
use Rattle.endian.specs.declared.kinds.Order.{Order}
use Rattle.endian.specs.declared.refusals.Refusal.{Refusal}
use Rattle.endian.specs.Refusals.{limit, too_long, no_segment}
use Rattle.endian.specs.Word.{field_at}
use Rattle.segment_entry.specs.declared.Segment.{Segment}

abbrev pub segment_size : Class → ℕ
segment_size Elf32 = 32
segment_size Elf64 = 56

-- Segment32 and Segment64 of document 01: where each field stands; f reads 4 bytes, g 8
abbrev pub segment_of : Class → Order → List ℕ → (base : ℕ) → Segment
segment_of Elf32 order s base =
    let f = field_at order s base 4 in
    record { kind = f 0; offset = f 4; vaddr = f 8; paddr = f 12; filesz = f 16; memsz = f 20; flags = f 24; align = f 28 }
segment_of Elf64 order s base =
    let f = field_at order s base 4 in
    let g = field_at order s base 8 in
    record { kind = f 0; flags = f 4; offset = g 8; vaddr = g 16; paddr = g 24; filesz = g 32; memsz = g 40; align = g 48 }

abbrev pub segment_count : Class → List ℕ → Result ℕ Refusal
segment_count class s = cond (ltb limit (length s)) (Err too_long) (Ok (length s / segment_size class))

-- a number past the whole records is refused
unfoldable pub segment_at : Class → Order → List ℕ → (number : ℕ) → Result Segment Refusal
segment_at class order s number =
    cond (ltb limit (length s)) (Err too_long)
    (cond (leb ((number + 1) * segment_size class) (length s)) (Ok (segment_of class order s (number * segment_size class)))
    (Err no_segment))
