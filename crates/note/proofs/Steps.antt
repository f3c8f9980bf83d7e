-- What the note reader's step finds by its first two tests.
--     step_long    bytes that are too long
--     step_end     the end: a reader at or past the end of the bytes
-- Assumes nothing.
use Rattle.std.proofs.Common.{ℕ, ◌<◌, ◌≤◌, ◌≡◌, List, length, Ok, Err, None, lt-ltb, le-ltb, le-leb}
use Rattle.endian.specs.Refusals.{limit, too_long}
use Rattle.note.specs.Notes.{note_step}
use Rattle.note.specs.declared.reader.NoteReader.{NoteReader}

module _ (r : NoteReader) (s : List ℕ) where
  pub step_long : limit < length s → note_step r s ≡ Err too_long
  unfolding note_step
  step_long long = simp (lt-ltb _ _ long)

  pub step_end : length s ≤ limit → length s ≤ r.at → note_step r s ≡ Ok None
  unfolding note_step
  step_end fits past = simp (le-ltb _ _ fits, le-leb _ _ past)
