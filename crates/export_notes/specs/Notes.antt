-- The answers about notes as C gets them: the number of a refusal, or 0, and the values of each case; what a case lacks is 0.
--     no_note, note_answer    of what a step found; next is the place of the reader after it
--     no_reader               a refusal for which there is no reader: next is the end
--     note_step_answer        a step at a place, by the numbers of order and alignment
--     trimmed_answer          the length of a trimmed name
-- Assumes nothing.
use Rattle.std.specs.Prelude.{ℕ, cond, List, [], ◌∷◌, length, Result, Ok, Err, Option, Some, None}
use Rattle.endian.specs.declared.refusals.Refusal.{Refusal}
use Rattle.endian.specs.Refusals.{any_long, too_long}
use Rattle.note.specs.declared.reader.Note.{Note}
use Rattle.note.specs.declared.reader.NoteReader.{NoteReader}
use Rattle.note.specs.Notes.{reader_for, to, note_step, reader_after}
use Rattle.note_name.specs.Trim.{trimmed_length}
use Rattle.export.specs.Answers.{number, no_number}
use Rattle.export.specs.Kinds.{is_kind, order_of, unless_unknown}
use Rattle.export.specs.declared.answers.NumberAnswer.{NumberAnswer}
use Rattle.export_notes.specs.declared.notes.NoteAnswer.{NoteAnswer}

abbrev pub no_note : (refusal next : ℕ) → NoteAnswer
no_note refusal next = record {
  refusal = refusal;
  found = 0;
  kind = 0;
  name = 0;
  name_length = 0;
  descriptor = 0;
  descriptor_length = 0;
  next = next;
}

abbrev pub note_answer : Result (Option Note) Refusal → (next : ℕ) → NoteAnswer
note_answer (Ok (Some note)) next = record {
  refusal = 0;
  found = 1;
  kind = note.kind;
  name = note.name;
  name_length = note.namesz;
  descriptor = note.descriptor;
  descriptor_length = note.descsz;
  next = next;
}
note_answer (Ok None) next = no_note 0 next
note_answer (Err r) next = no_note r.0 next

abbrev pub no_reader : List ℕ → Refusal → NoteAnswer
no_reader s r = no_note r.0 (length s)

-- a step of the reader at a place, or why there is no reader
abbrev pub step_of : List ℕ → ℕ → Result NoteReader Refusal → NoteAnswer
step_of s at (Ok reader) = note_answer (note_step (to reader at) s) (reader_after (to reader at) s).at
step_of s at (Err r) = no_reader s r

abbrev pub note_step_answer : (order align : ℕ) → List ℕ → (at : ℕ) → NoteAnswer
note_step_answer order align s at =
    unless_unknown (no_reader s) (is_kind order) (s ∷ [])
    (cond (any_long (s ∷ [])) (no_reader s too_long) (step_of s at (reader_for (order_of order) align)))

abbrev pub trimmed_answer : List ℕ → NumberAnswer
trimmed_answer name = cond (any_long (name ∷ [])) (no_number too_long) (number (trimmed_length name))
