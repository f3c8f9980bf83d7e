-- Stepping from a reader on gives the list of notes: each note moves the place by at least 12, so that the length is steps enough.
--     Seen, seen, seen_step       what each answer of a step says of the reader after it
--     refused_stays, end_stays    a reader at its end stays there, and each step finds the end
--     within_enough               more steps than there are bytes left change nothing
--     notes_from_step             the list, from the step's answer and the list of the reader after it
--     stepping                    stepping gives the list
--     stepping_only               and no other
--     section_stepping            stepping from the start of a section gives the section's list
-- Assumes nothing.
use Rattle.std.proofs.Common.{ℕ, zero, suc, ◌+◌, ◌-◌, ◌<◌, ◌≤◌, ◌≡◌, refl, sym, ap, ◌∙◌, subst, Bool, true, false, cond, List, arith, ltb, leb, length, leb-false, ltb-true, Result, Ok, Err, Option, Some, None}
use Rattle.endian.specs.declared.kinds.Order.{Order}
use Rattle.endian.specs.declared.refusals.Refusal.{Refusal}
use Rattle.endian.specs.Refusals.{limit, too_long, note_short, bad_note_name, bad_note_descriptor}
use Rattle.note.specs.Notes.{reader_for, note_step, after_found, reader_after, to, name_end, descriptor_end, note_of}
use Rattle.note.specs.Walk.{NoteList, stopped, none, onto, after_step, notes_within, notes_from, notes_of, section_notes, Stepping, ends, stops, goes}
use Rattle.note.specs.declared.reader.NoteReader.{NoteReader}
use Rattle.note.specs.declared.reader.Note.{Note}
use Rattle.note.proofs.Aligned.{aligned-le}
use Rattle.note.proofs.Steps.{step_long, step_end}

-- a note was inside, and the next starts at least 12 bytes further; the end leaves the reader, and a refusal puts it at its end
abbrev pub Seen : NoteReader → List ℕ → (next : NoteReader) → Result (Option Note) Refusal → Type 0
Seen r s next (Ok (Some note)) = (r.at < length s) × (r.at + 12 ≤ next.at)
Seen r s next (Ok None) = next ≡ r
Seen r s next (Err refusal) = next ≡ to r (length s)

abbrev SeenBy : NoteReader → List ℕ → Result (Option Note) Refusal → Type 0
SeenBy r s found = Seen r s (after_found r s found) found

module _ (s : List ℕ) where
  seen : (r : NoteReader) → Seen r s (reader_after r s) (note_step r s)
  unfolding note_step
  seen r =
      by (ltb limit (length s)) (leb (length s) r.at) refl (ltb (length s) (r.at + 12))
      (ltb (length s) (r.at + name_end r s)) (ltb (length s) (r.at + descriptor_end r s))
    where
      by : (long past : Bool) → leb (length s) r.at ≡ past → (short name descriptor : Bool)
          → SeenBy r s
          (cond long (Err too_long)
          (cond past (Ok None)
          (cond short (Err note_short)
          (cond name (Err bad_note_name)
          (cond descriptor (Err bad_note_descriptor)
          (Ok (Some (note_of r s))))))))
      by true past e short name descriptor = refl
      by false true e short name descriptor = refl
      by false false e true name descriptor = refl
      by false false e false true descriptor = refl
      by false false e false false true = refl
      by false false e false false false = (
        leb-false (length s) r.at e,
        omega (
          arith,
          aligned-le r.align (name_end r s),
          aligned-le r.align (descriptor_end r s),
        ),
      )

  pub seen_step : (r : NoteReader) (found : Result (Option Note) Refusal) → note_step r s ≡ found → Seen r s (reader_after r s) found
  seen_step r found e = subst (λ (x : Result (Option Note) Refusal). Seen r s (reader_after r s) x) e (seen r)

  pub end_stays : (r : NoteReader) → note_step r s ≡ Ok None
      → (note_step (reader_after r s) s ≡ Ok None) × (reader_after (reader_after r s) s ≡ reader_after r s)
  end_stays r e =
      let stays : reader_after r s ≡ r = seen_step r (Ok None) e in
      let again : note_step (reader_after r s) s ≡ Ok None = ap (λ (x : NoteReader). note_step x s) stays ∙ e in
      (again, seen_step (reader_after r s) (Ok None) again)

  pub refused_stays : (r : NoteReader) (refusal : Refusal) → length s ≤ limit → note_step r s ≡ Err refusal
      → (note_step (reader_after r s) s ≡ Ok None) × (reader_after (reader_after r s) s ≡ reader_after r s)
  refused_stays r refusal fits e =
      let place : (reader_after r s).at ≡ length s = ap (λ (x : NoteReader). x.at) (seen_step r (Err refusal) e) in
      let again : note_step (reader_after r s) s ≡ Ok None = step_end (reader_after r s) s fits (omega arith) in
      (again, seen_step (reader_after r s) (Ok None) again)

  within_enough : (m n : ℕ) (r : NoteReader) → length s - r.at < m → length s - r.at < n
      → notes_within m s r ≡ notes_within n s r
  unfolding notes_within
  within_enough zero n r h k = absurd (omega arith)
  within_enough (suc m) zero r h k = absurd (omega arith)
  within_enough (suc m) (suc n) r h k = by (within_enough m n (reader_after r s)) (note_step r s) refl
    where
      by : (length s - (reader_after r s).at < m → length s - (reader_after r s).at < n
          → notes_within m s (reader_after r s) ≡ notes_within n s (reader_after r s))
          → (found : Result (Option Note) Refusal) → note_step r s ≡ found
          → after_step (notes_within m s (reader_after r s)) found ≡ after_step (notes_within n s (reader_after r s)) found
      by rest (Ok (Some note)) e =
          let moved = seen_step r (Ok (Some note)) e in
          ap (onto note) (rest (omega (arith, moved.0, moved.1)) (omega (arith, moved.0, moved.1)))
      by rest (Ok None) e = refl
      by rest (Err refusal) e = refl

  pub notes_from_step : (r : NoteReader) → notes_from s r ≡ after_step (notes_from s (reader_after r s)) (note_step r s)
  unfolding notes_from notes_within
  notes_from_step r = by (note_step r s) refl
    where
      by : (found : Result (Option Note) Refusal) → note_step r s ≡ found
          → after_step (notes_within (length s) s (reader_after r s)) found ≡ after_step (notes_from s (reader_after r s)) found
      by (Ok (Some note)) e =
          let moved = seen_step r (Ok (Some note)) e in
          ap (onto note)
          (within_enough (length s) (suc (length s)) (reader_after r s) (omega (arith, moved.0, moved.1)) (omega (arith, moved.0, moved.1)))
      by (Ok None) e = refl
      by (Err refusal) e = refl

  stepping_within : (n : ℕ) (r : NoteReader) → length s - r.at < n → Stepping s r (notes_within n s r)
  unfolding notes_within
  stepping_within zero r h = absurd (omega arith)
  stepping_within (suc n) r h = by (stepping_within n (reader_after r s)) (note_step r s) refl
    where
      by : (length s - (reader_after r s).at < n → Stepping s (reader_after r s) (notes_within n s (reader_after r s)))
          → (found : Result (Option Note) Refusal) → note_step r s ≡ found
          → Stepping s r (after_step (notes_within n s (reader_after r s)) found)
      by rest (Ok (Some note)) e =
          let moved = seen_step r (Ok (Some note)) e in
          goes e (rest (omega (arith, moved.0, moved.1)))
      by rest (Ok None) e = ends e
      by rest (Err refusal) e = stops e

  pub stepping : (r : NoteReader) → Stepping s r (notes_from s r)
  unfolding notes_from
  stepping r = stepping_within (suc (length s)) r (omega arith)

  pub stepping_only : (r : NoteReader) (list : NoteList) → Stepping s r list → list ≡ notes_from s r
  stepping_only r list (ends e) = sym (notes_from_step r ∙ ap (after_step (notes_from s (reader_after r s))) e)
  stepping_only r list (stops e) = sym (notes_from_step r ∙ ap (after_step (notes_from s (reader_after r s))) e)
  stepping_only r list (goes {note = note} e rest) =
      ap (onto note) (stepping_only _ _ rest) ∙ sym (notes_from_step r ∙ ap (after_step (notes_from s (reader_after r s))) e)

  pub section_stepping : (order : Order) (align : ℕ) (r : NoteReader) → reader_for order align ≡ Ok r
      → Stepping s r (section_notes order align s)
  section_stepping order align r e = by (ltb limit (length s)) refl
    where
      by : (long : Bool) → ltb limit (length s) ≡ long
          → Stepping s r (cond long (none (stopped too_long)) (notes_of s (reader_for order align)))
      by true long = stops (step_long r s (ltb-true limit (length s) long))
      by false fits = subst (λ (x : Result NoteReader Refusal). Stepping s r (notes_of s x)) (sym e) (stepping r)
