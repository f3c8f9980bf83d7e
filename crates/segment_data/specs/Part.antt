-- The bytes of a segment in the file (01, module 7). Offsets and sizes are any numbers, and no sum of them wraps.
--     is_in_file            whether filesz bytes at the segment's offset are inside the file
--     segment_data          the segment's data, as a place in the file
--     is_here               whether an address range is among the file bytes, which start at vaddr
--     segment_data_range    the bytes of an address range, as a place in the file
-- Assumes nothing.
use Rattle.std.specs.Prelude.{ℕ, ◌+◌, ◌-◌, Bool, cond, not, ◌&&◌, List, leb, ltb, length, Result, Ok, Err, Option, Some, None}
use Rattle.endian.specs.declared.refusals.Refusal.{Refusal}
use Rattle.endian.specs.Refusals.{limit, too_long, bad_segment_data}
use Rattle.strings.specs.declared.Place.{Place}
use Rattle.segment_entry.specs.declared.Segment.{Segment}

-- an offset no more than the length, also for filesz 0
unfoldable pub is_in_file : List ℕ → Segment → Bool
is_in_file file segment = leb (segment.offset + segment.filesz) (length file)

abbrev pub segment_data : List ℕ → Segment → Result Place Refusal
segment_data file segment =
    cond (ltb limit (length file)) (Err too_long)
    (cond (is_in_file file segment) (Ok (record { start = segment.offset; len = segment.filesz }))
    (Err bad_segment_data))

-- it does not begin below vaddr, and does not reach past the file bytes
unfoldable pub is_here : Segment → (address size : ℕ) → Bool
is_here segment address size = leb segment.vaddr address && leb (address + size) (segment.vaddr + segment.filesz)

abbrev pub segment_data_range : List ℕ → Segment → (address size : ℕ) → Result (Option Place) Refusal
segment_data_range file segment address size =
    cond (ltb limit (length file)) (Err too_long)
    (cond (not (is_in_file file segment)) (Err bad_segment_data)
    (cond (is_here segment address size) (Ok (Some (record { start = segment.offset + (address - segment.vaddr); len = size })))
    (Ok None)))
