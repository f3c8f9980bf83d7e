-- Where the places of a record that was read lie, and so how its list goes on.
--     record_place, record_onward                  of a record of a list: in the bytes, and the next one past it
--     listed_end, listed_more, listed_stop         a list, from a place on: at the end; at a record; at a refusal
--     vernauxs_end, vernauxs_more, vernauxs_stop   a chain, likewise
-- Assumes nothing.
use Rattle.std.proofs.Common.{ℕ, ◌+◌, ◌-◌, ◌≤◌, ◌<◌, ◌≡◌, refl, sym, List, Bool, true, false, cond, length, ltb, eqb, arith, Ok, Err}
use borrow.Author.Tests.{eqb-false}
use Rattle.endian.specs.declared.kinds.Order.{Order}
use Rattle.endian.specs.declared.refusals.Refusal.{Refusal}
use Rattle.endian.specs.Word.{field_at}
use Rattle.version_records.specs.Walk.Walk.{end, broken, more}
use Rattle.version_records.specs.Records.{place_after, record_at, aux_at, listed, vernauxs, vernaux_shape}
use Rattle.version_records.specs.declared.records.ListShape.{ListShape}
use Rattle.version_layout.specs.declared.steps.Record.{Record}
use Rattle.version_layout.specs.declared.steps.Aux.{Aux}
use Rattle.version_records.proofs.Outcomes.{fine_same, cond_fine}
use Rattle.version_records.proofs.Walks.{linked_end, linked_more, linked_stop, counted_end, counted_more, counted_stop}

place_past : (n at next : ℕ) → at < n → at < place_after n at next
unfolding place_after
place_past n at next h = by (eqb next 0) refl
  where
    by : (t : Bool) → eqb next 0 ≡ t → at < cond t n (at + next)
    by true e = h
    by false e = let some : next ≡ 0 → ⊥ = eqb-false next 0 e in omega arith

module _ (shape : ListShape) (order : Order) (s : List ℕ) (at : ℕ) where
  abbrev aux : ℕ
  aux = field_at order s at 4 shape.aux

  abbrev next : ℕ
  next = field_at order s at 4 shape.next

  abbrev whole : Record
  whole = record { at = at; aux = at + aux; next = place_after (length s) at next }

  module _ (r : Record) (read : record_at shape order s at ≡ Ok r) where
    record_read : r ≡ whole
    unfolding record_at
    record_read =
        let left = length s - at in
        let long = (cond_fine (ltb left shape.size) shape.short _ r read).1 in
        let chained = cond_fine (ltb left aux) shape.bad_aux _ r long in
        let onward = cond_fine (ltb left next) shape.bad_next (Ok whole) r chained.1 in
        sym (fine_same whole r onward.1)

    pub record_place : at ≤ length s → r.at ≤ length s
    record_place h = rw (record_read) h

    pub record_onward : at < length s → at < r.next
    record_onward h = rw (record_read) (place_past _ _ _ h)

  pub listed_end : length s ≤ at → listed shape order s at ≡ end
  listed_end h = linked_end (record_at shape order s) (λ r. r.next) (length s) at h

module _ (shape : ListShape) (order : Order) (s : List ℕ) (at : ℕ) (inside : at < length s) where
  onward : (at : ℕ) (r : Record) → at < length s → record_at shape order s at ≡ Ok r → at < r.next
  onward at r h read = record_onward shape order s at r read h

  pub listed_more : (r : Record) → record_at shape order s at ≡ Ok r
      → listed shape order s at ≡ more r (listed shape order s r.next)
  listed_more r read = linked_more (record_at shape order s) (λ r. r.next) (length s) onward at r inside read

  pub listed_stop : (e : Refusal) → record_at shape order s at ≡ Err e → listed shape order s at ≡ broken e
  listed_stop e read = linked_stop (record_at shape order s) (λ r. r.next) (length s) onward at e inside read

module _ (order : Order) (s : List ℕ) (left at : ℕ) where
  pub vernauxs_end : left ≤ 0 → vernauxs order s left at ≡ end
  vernauxs_end h = counted_end (aux_at vernaux_shape order s) (λ a. a.next) left at h

  pub vernauxs_more : (a : Aux) → 0 < left → aux_at vernaux_shape order s at ≡ Ok a
      → vernauxs order s left at ≡ more a (vernauxs order s (left - 1) a.next)
  vernauxs_more a h read = counted_more (aux_at vernaux_shape order s) (λ a. a.next) left at a h read

  pub vernauxs_stop : (e : Refusal) → 0 < left → aux_at vernaux_shape order s at ≡ Err e
      → vernauxs order s left at ≡ broken e
  vernauxs_stop e h read = counted_stop (aux_at vernaux_shape order s) (λ a. a.next) left at e h read
