-- The end form of the note reader: the lent bytes and the reader in one struct (01, "Where each form goes").
--     notes_at    the bytes with a reader
--     answered    what a step of the notes finds
--     stepped     the notes after it: the same bytes with the reader that stands after the step
-- Assumes nothing.
use Rattle.std.specs.Prelude.{List, ℕ, Result, Option}
use Rattle.std.specs.Borrow.{Bor}
use Rattle.endian.specs.declared.refusals.Refusal.{Refusal}
use Rattle.note.specs.Notes.{note_step, reader_after}
use Rattle.note.specs.declared.reader.Note.{Note}
use Rattle.note.specs.declared.reader.NoteReader.{NoteReader}
use Rattle.note_reader.specs.declared.Notes.{Notes}

abbrev pub notes_at : Bor (List ℕ) → NoteReader → Notes
notes_at bytes reader = record { bytes = bytes; reader = reader }

abbrev pub answered : Notes → Result (Option Note) Refusal
answered notes = note_step notes.reader notes.bytes.now

abbrev pub stepped : Notes → Notes
stepped notes = notes_at notes.bytes (reader_after notes.reader notes.bytes.now)
