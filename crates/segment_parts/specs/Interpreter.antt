-- The interpreter that a segment names (01, module 7): the segment's bytes up to their first zero.
--     segment_bytes          the segment's bytes
--     up_to_zero             the front part of some bytes of the file, up to their first zero
--     segment_interpreter    the interpreter's name, as a place in the file
-- Assumes nothing.
use Rattle.std.specs.Prelude.{ℕ, cond, not, List, eqb, ltb, length, take, drop, Result, Ok, Err, Option, Some, None}
use Rattle.endian.specs.First.{first, is_zero, readable}
use Rattle.endian.specs.declared.refusals.Refusal.{Refusal}
use Rattle.endian.specs.Refusals.{limit, too_long, bad_interpreter_place, endless_interpreter}
use Rattle.strings.specs.declared.Place.{Place}
use Rattle.segment_data.specs.Part.{is_in_file}
use Rattle.segment_entry.specs.declared.Segment.{Segment}

abbrev pub segment_bytes : List ℕ → Segment → List ℕ
segment_bytes file segment = take segment.filesz (drop segment.offset file)

abbrev pub up_to_zero : (start : ℕ) → List ℕ → Result (Option Place) Refusal
up_to_zero start bytes = cond (readable bytes) (Ok (Some (record { start = start; len = first is_zero bytes }))) (Err endless_interpreter)

-- only for type PT_INTERP, which is 3
abbrev pub segment_interpreter : List ℕ → Segment → Result (Option Place) Refusal
segment_interpreter file segment =
    cond (ltb limit (length file)) (Err too_long)
    (cond (not (eqb segment.kind 3)) (Ok None)
    (cond (is_in_file file segment) (up_to_zero segment.offset (segment_bytes file segment))
    (Err bad_interpreter_place)))
