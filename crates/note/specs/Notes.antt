-- Notes, as document 01 (module 4, "Layouts") and the gABI ("Note Section") have them.
-- A note's own places are in the lent bytes; all else is counted from the note's own start.
--     align_size, aligned                the bytes of an alignment, and its first multiple that is no less than a number
--     reader_for                         the reader before the first note, by the alignment's number
--     to                                 the same reader at another place
--     namesz, descsz                     the first two fields of the header: the sizes of name and descriptor
--     name_end                           where the name ends: it starts at 12
--     descriptor_from, descriptor_end    where the descriptor starts, at the aligned end of the name, and where it ends
--     note_next                          where the next note starts, at the aligned end of the descriptor
--     note_of                            the note at a reader's place; its type is the header's third field
--     note_step                          what a step finds
--     after_found, reader_after          the reader that stands after a step, by what it found
-- Assumes nothing.
use Rattle.std.specs.Prelude.{ℕ, ◌+◌, ◌*◌, ◌/◌, cond, List, eqb, leb, ltb, length, Result, Ok, Err, Option, Some, None}
use Rattle.endian.specs.declared.kinds.Order.{Order}
use Rattle.endian.specs.declared.refusals.Refusal.{Refusal}
use Rattle.endian.specs.Refusals.{limit, too_long, note_short, bad_note_name, bad_note_descriptor, bad_note_alignment}
use Rattle.endian.specs.Word.{field_at}
use Rattle.note.specs.declared.reader.Align.{Align}
use Rattle.note.specs.declared.reader.Align.TheVariants.{Four, Eight}
use Rattle.note.specs.declared.reader.NoteReader.{NoteReader}
use Rattle.note.specs.declared.reader.Note.{Note}

abbrev pub align_size : Align → ℕ
align_size Four = 4
align_size Eight = 8

abbrev pub aligned : Align → ℕ → ℕ
aligned Four n = (n + 3) / 4 * 4
aligned Eight n = (n + 7) / 8 * 8

-- 0 to 4 counts as 4, 8 as 8, all else is refused
abbrev pub reader_for : Order → ℕ → Result NoteReader Refusal
reader_for order n =
    cond (leb n 4) (Ok (record { order = order; align = Four; at = 0 }))
    (cond (eqb n 8) (Ok (record { order = order; align = Eight; at = 0 }))
    (Err bad_note_alignment))

abbrev pub to : NoteReader → ℕ → NoteReader
to reader place = record { order = reader.order; align = reader.align; at = place }

abbrev pub namesz : NoteReader → List ℕ → ℕ
namesz reader s = field_at reader.order s reader.at 4 0

abbrev pub descsz : NoteReader → List ℕ → ℕ
descsz reader s = field_at reader.order s reader.at 4 4

abbrev pub name_end : NoteReader → List ℕ → ℕ
name_end reader s = 12 + namesz reader s

abbrev pub descriptor_from : NoteReader → List ℕ → ℕ
descriptor_from reader s = aligned reader.align (name_end reader s)

abbrev pub descriptor_end : NoteReader → List ℕ → ℕ
descriptor_end reader s = descriptor_from reader s + descsz reader s

abbrev pub note_next : NoteReader → List ℕ → ℕ
note_next reader s = aligned reader.align (descriptor_end reader s)

abbrev pub note_of : NoteReader → List ℕ → Note
note_of reader s = record {
  kind = field_at reader.order s reader.at 4 8;
  name = reader.at + 12;
  namesz = namesz reader s;
  descriptor = reader.at + descriptor_from reader s;
  descsz = descsz reader s;
}

unfoldable pub note_step : NoteReader → List ℕ → Result (Option Note) Refusal
note_step reader s =
    cond (ltb limit (length s)) (Err too_long)
    (cond (leb (length s) reader.at) (Ok None)
    (cond (ltb (length s) (reader.at + 12)) (Err note_short)
    (cond (ltb (length s) (reader.at + name_end reader s)) (Err bad_note_name)
    (cond (ltb (length s) (reader.at + descriptor_end reader s)) (Err bad_note_descriptor)
    (Ok (Some (note_of reader s)))))))

-- a refused reader stands at the end of the bytes
abbrev pub after_found : NoteReader → List ℕ → Result (Option Note) Refusal → NoteReader
after_found reader s (Ok (Some note)) = to reader (reader.at + note_next reader s)
after_found reader s (Ok None) = reader
after_found reader s (Err refusal) = to reader (length s)

abbrev pub reader_after : NoteReader → List ℕ → NoteReader
reader_after reader s = after_found reader s (note_step reader s)
