-- The answer about a segment's notes as C gets it: document 01's number of a refusal, or 0, and the values of each case; what a case lacks is 0.
--     notes_answer    of the part that holds the notes: number is the alignment of the reader, which is at the start
-- Assumes nothing.
use Rattle.std.specs.Prelude.{Result, Ok, Err, Option, Some, None}
use Rattle.endian.specs.declared.refusals.Refusal.{Refusal}
use Rattle.note.specs.Notes.{align_size}
use Rattle.segment_parts.specs.declared.notes.NotesPart.{NotesPart}
use Rattle.export.specs.Parts.{no_part, part}
use Rattle.export.specs.declared.parts.PartAnswer.{PartAnswer}

abbrev pub notes_answer : Result (Option NotesPart) Refusal → PartAnswer
notes_answer (Ok (Some found)) = part found.place.start found.place.len (align_size found.reader.align)
notes_answer (Ok None) = no_part 0
notes_answer (Err r) = no_part r.0
