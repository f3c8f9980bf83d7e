-- The notes of a segment (01, module 7): the reader of `note`, and the part of the file that it reads.
--     read_by          the answer, by the reader for the segment's alignment
--     segment_notes    the notes of a segment: the place comes before the alignment
-- Assumes nothing.
use Rattle.std.specs.Prelude.{ℕ, cond, not, List, eqb, ltb, length, Result, Ok, Err, Option, Some, None}
use Rattle.endian.specs.declared.kinds.Order.{Order}
use Rattle.endian.specs.declared.refusals.Refusal.{Refusal}
use Rattle.endian.specs.Refusals.{limit, too_long, bad_note_place}
use Rattle.note.specs.Notes.{reader_for}
use Rattle.note.specs.declared.reader.NoteReader.{NoteReader}
use Rattle.segment_data.specs.Part.{is_in_file}
use Rattle.segment_entry.specs.declared.Segment.{Segment}
use Rattle.segment_parts.specs.declared.notes.NotesPart.{NotesPart}

abbrev pub read_by : Segment → Result NoteReader Refusal → Result (Option NotesPart) Refusal
read_by segment (Ok reader) = Ok (Some (record {
  reader = reader;
  place = record { start = segment.offset; len = segment.filesz };
}))
read_by segment (Err refusal) = Err refusal

-- only for type PT_NOTE, which is 4
abbrev pub segment_notes : Order → List ℕ → Segment → Result (Option NotesPart) Refusal
segment_notes order file segment =
    cond (ltb limit (length file)) (Err too_long)
    (cond (not (eqb segment.kind 4)) (Ok None)
    (cond (is_in_file file segment) (read_by segment (reader_for order segment.align))
    (Err bad_note_place)))
