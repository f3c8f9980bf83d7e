-- Need not be believed for a promise: all the notes of a section, in order, and how they end (01, module 4). It is made of
-- steps; document 01's cases are stated by it.
--     Ending, NoteList           at the end or with a refusal, and the notes before that
--     none, onto                 no notes, and one more in front
--     after_step                 what a step adds to the list of the reader after it
--     notes_within               the list, of so many steps at most
--     notes_from                 the list from a reader on: each note takes at least 12 bytes, so the length is steps enough
--     notes_of, section_notes    the list of a section, by the alignment's number
--     Stepping                   stepping from a reader on gives this list
-- Assumes nothing.
use Rattle.std.specs.Prelude.{ℕ, zero, suc, ◌≡◌, cond, List, [], ◌∷◌, ltb, length, Result, Ok, Err, Option, Some, None}
use Rattle.endian.specs.declared.kinds.Order.{Order}
use Rattle.endian.specs.declared.refusals.Refusal.{Refusal}
use Rattle.endian.specs.Refusals.{limit, too_long}
use Rattle.note.specs.Notes.{note_step, reader_after, reader_for}
use Rattle.note.specs.declared.reader.NoteReader.{NoteReader}
use Rattle.note.specs.declared.reader.Note.{Note}

pub data Ending : Type 0 where
  ended : Ending
  stopped : Refusal → Ending

pub record NoteList : Type 0 where
  pub notes : List Note
  pub ending : Ending

abbrev pub none : Ending → NoteList
none how = record { notes = []; ending = how }

abbrev pub onto : Note → NoteList → NoteList
onto note rest = record { notes = note ∷ rest.notes; ending = rest.ending }

abbrev pub after_step : NoteList → Result (Option Note) Refusal → NoteList
after_step rest (Ok (Some note)) = onto note rest
after_step rest (Ok None) = none ended
after_step rest (Err refusal) = none (stopped refusal)

unfoldable pub notes_within : (steps : ℕ) → List ℕ → NoteReader → NoteList
notes_within zero s reader = none ended
notes_within (suc steps) s reader = after_step (notes_within steps s (reader_after reader s)) (note_step reader s)

unfoldable pub notes_from : List ℕ → NoteReader → NoteList
notes_from s reader = notes_within (suc (length s)) s reader

abbrev pub notes_of : List ℕ → Result NoteReader Refusal → NoteList
notes_of s (Ok reader) = notes_from s reader
notes_of s (Err refusal) = none (stopped refusal)

abbrev pub section_notes : Order → (align : ℕ) → List ℕ → NoteList
section_notes order align s = cond (ltb limit (length s)) (none (stopped too_long)) (notes_of s (reader_for order align))

pub data Stepping (s : List ℕ) : NoteReader → NoteList → Type 0 where
  ends : {reader : NoteReader} → note_step reader s ≡ Ok None → Stepping s reader (none ended)
  stops : {reader : NoteReader} {refusal : Refusal} → note_step reader s ≡ Err refusal
      → Stepping s reader (none (stopped refusal))
  goes : {reader : NoteReader} {note : Note} {rest : NoteList} → note_step reader s ≡ Ok (Some note)
      → Stepping s (reader_after reader s) rest → Stepping s reader (onto note rest)
