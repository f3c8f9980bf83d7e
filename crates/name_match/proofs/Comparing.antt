-- The comparison of a name with the bytes from a place on.
--     reads_zero, _differ, _next, _last, _short    one step of a comparison, on lists
--     reads_step, _stop, _ended, _end              the same, of the byte i of the name
--     reads_back                                   what is no match from a byte on is none from the start
--     reads_other                                  one byte that is not the same: no match
--     reads_all                                    all are: what follows them decides
--     same_none, _next, _join                      the bytes that were seen to be the same grow
--     fewer, missed                                of the counted bytes: not all are; the last one is not, or one before it
-- Assumes nothing.
use Rattle.std.proofs.Common.{ℕ, zero, suc, ◌<◌, ◌≤◌, ◌+◌, ◌≡◌, refl, ◌∙◌, Bool, true, false, ◌&&◌, List, [], ◌∷◌, arith, add-one, add-suc, add-zero, le_refl, eqb, ltb, length, drop, get_or, drop_of_length-le, drop-cons, ltb-true, ltb-false, lt-ltb, eq-eqb, ne_eqb, eqb-true}
use lib.Dec.{eqb-suc-zero, leb-suc-suc}
use borrow.Author.Tests.{eqb-false}
use Rattle.endian.specs.First.{first, readable}
use Rattle.name_match.specs.Reads.{text, reads}
use Rattle.name_match.specs.Same.{Same, SameFrom}

and_false : (t : Bool) → (t && false) ≡ false
and_false true = refl
and_false false = refl

pub reads_zero : (rest : List ℕ) (c : ℕ) (name : List ℕ) → reads (0 ∷ rest) (c ∷ name) ≡ false
unfolding first readable text reads
reads_zero rest c name = simp and_false

pub reads_differ : (b : ℕ) (rest : List ℕ) (c : ℕ) (name : List ℕ) → (b ≡ c → ⊥) → reads (b ∷ rest) (c ∷ name) ≡ false
unfolding first readable text reads
reads_differ zero rest c name differ = simp and_false
reads_differ (suc b) rest c name differ = simp (eqb-suc-zero, ne_eqb (suc b) c differ, and_false)

pub reads_next : (b : ℕ) (rest : List ℕ) (c : ℕ) (name : List ℕ) → (b ≡ 0 → ⊥) → b ≡ c
    → reads (b ∷ rest) (c ∷ name) ≡ reads rest name
unfolding first readable text reads
reads_next b rest c name more equal = simp (ne_eqb b 0 more, eq-eqb b c equal, leb-suc-suc)

pub reads_last : (b : ℕ) (rest : List ℕ) → reads (b ∷ rest) [] ≡ eqb b 0
unfolding first readable text reads
reads_last zero rest = simp (lt-ltb 0 (suc (length rest)) (omega arith))
reads_last (suc b) rest = simp (eqb-suc-zero, and_false)

pub reads_short : (rest name : List ℕ) → length rest ≤ length name → reads rest name ≡ false
unfolding first readable text reads
reads_short [] name h = refl
reads_short (b ∷ rest) [] h = absurd (omega arith)
reads_short (zero ∷ rest) (c ∷ name) h = reads_zero rest c name
reads_short (suc b ∷ rest) (c ∷ name) h = by (reads_short rest name (omega arith)) (eqb (suc b) c) refl
  where
    by : reads rest name ≡ false → (t : Bool) → eqb (suc b) c ≡ t → reads (suc b ∷ rest) (c ∷ name) ≡ false
    by shorter true e = reads_next (suc b) rest c name (λ z. omega arith) (eqb-true (suc b) c e) ∙ shorter
    by shorter false e = reads_differ (suc b) rest c name (eqb-false (suc b) c e)

module _ (s name : List ℕ) (at i : ℕ) (inside : at + i < length s) where
  module _ (left : i < length name) where
    pub reads_step : get_or s (at + i) 0 ≡ get_or name i 0 → (get_or s (at + i) 0 ≡ 0 → ⊥)
        → reads (drop (at + i) s) (drop i name) ≡ reads (drop (at + (i + 1)) s) (drop (i + 1) name)
    reads_step equal more =
        rw (add-one i, add-suc at i, drop-cons s (at + i) 0, drop-cons name i 0) (reads_next _ _ _ _ more equal)

    pub reads_stop : (get_or s (at + i) 0 ≡ get_or name i 0 → ⊥) → reads (drop (at + i) s) (drop i name) ≡ false
    reads_stop differ = rw (drop-cons s (at + i) 0, drop-cons name i 0) (reads_differ _ _ _ _ differ)

    pub reads_ended : get_or s (at + i) 0 ≡ 0 → reads (drop (at + i) s) (drop i name) ≡ false
    reads_ended ended = rw (drop-cons s (at + i) 0, drop-cons name i 0, ended) (reads_zero _ _ _)

  pub reads_end : length name ≤ i → reads (drop (at + i) s) (drop i name) ≡ eqb (get_or s (at + i) 0) 0
  reads_end done = rw (drop-cons s (at + i) 0, drop_of_length-le name {i = i} done) (reads_last _ _)

module _ (s : List ℕ) (at : ℕ) (name : List ℕ) (inside : at + length name < length s) where
  pub reads_back : (i : ℕ) → i ≤ length name → reads (drop (at + i) s) (drop i name) ≡ false → reads (drop at s) name ≡ false
  reads_back zero fits h = rw add-zero at h
  reads_back (suc i) fits h = reads_back i (omega arith) (by (eqb (get_or s (at + i) 0) (get_or name i 0)) refl (eqb (get_or s (at + i) 0) 0) refl)
    where
      by : (t : Bool) → eqb (get_or s (at + i) 0) (get_or name i 0) ≡ t → (z : Bool) → eqb (get_or s (at + i) 0) 0 ≡ z
          → reads (drop (at + i) s) (drop i name) ≡ false
      by false e z f = reads_stop s name at i (omega arith) (omega arith) (eqb-false _ _ e)
      by true e true f = reads_ended s name at i (omega arith) (omega arith) (eqb-true _ _ f)
      by true e false f =
          let step = reads_step s name at i (omega arith) (omega arith) (eqb-true _ _ e) (eqb-false _ _ f) in
          step ∙ rw (add-one i) h

  pub reads_other : (i : ℕ) → i < length name → (Same (get_or s (at + i) 0) (get_or name i 0) → ⊥) → reads (drop at s) name ≡ false
  reads_other i less other = reads_back i (omega arith) (by (eqb (get_or s (at + i) 0) (get_or name i 0)) refl (eqb (get_or s (at + i) 0) 0) refl)
    where
      by : (t : Bool) → eqb (get_or s (at + i) 0) (get_or name i 0) ≡ t → (z : Bool) → eqb (get_or s (at + i) 0) 0 ≡ z
          → reads (drop (at + i) s) (drop i name) ≡ false
      by false e z f = reads_stop s name at i (omega arith) less (eqb-false _ _ e)
      by true e true f = reads_ended s name at i (omega arith) less (eqb-true _ _ f)
      by true e false f = absurd (other (eqb-true _ _ e, eqb-false _ _ f))

  reads_upto : (i : ℕ) → i ≤ length name → SameFrom s at name 0 i → reads (drop at s) name ≡ reads (drop (at + i) s) (drop i name)
  reads_upto zero fits all = rw add-zero
  reads_upto (suc i) fits all =
      let here = all i (omega arith) (omega arith) in
      let step = reads_step s name at i (omega arith) (omega arith) here.0 here.1 in
      reads_upto i (omega arith) (λ j low less. all j low (omega arith)) ∙ rw (add-one i) at step

  pub reads_all : SameFrom s at name 0 (length name) → reads (drop at s) name ≡ eqb (get_or s (at + length name) 0) 0
  reads_all all = reads_upto (length name) (le_refl _) all ∙ reads_end s name at (length name) inside (le_refl _)

module _ (s : List ℕ) (at : ℕ) (name : List ℕ) (i : ℕ) where
  pub same_none : SameFrom s at name i i
  same_none j low less = absurd (omega arith)

  pub same_join : (k j to : ℕ) → j ≤ k → SameFrom s at name i k → SameFrom s at name j to → SameFrom s at name i to
  same_join k j to meet front back m low less = by (ltb m k) refl
    where
      by : (t : Bool) → ltb m k ≡ t → Same (get_or s (at + m) 0) (get_or name m 0)
      by true e = front m low (ltb-true m k e)
      by false e =
          let past = ltb-false m k e in
          back m (omega arith) less

  pub same_next : (to : ℕ) → SameFrom s at name i to → Same (get_or s (at + to) 0) (get_or name to 0) → SameFrom s at name i (to + 1)
  same_next to front here = same_join to to (to + 1) (le_refl _) front one
    where
      one : SameFrom s at name to (to + 1)
      one m low less =
          let only : m ≡ to = omega arith in
          rw only here

pub fewer : (n m : ℕ) → n ≤ m → (n ≡ m → ⊥) → n < m
fewer n m fits other = by (ltb n m) refl
  where
    by : (t : Bool) → ltb n m ≡ t → n < m
    by true e = ltb-true n m e
    by false e =
        let past = ltb-false n m e in
        absurd (other (omega arith))

pub missed : {A : Type 0} (n r k : ℕ) → n + r < k + 1 → (n < k → A) → (r ≡ 0 → A) → A
missed {A = A} n r k less before here = by (ltb n k) refl
  where
    by : (t : Bool) → ltb n k ≡ t → A
    by true e = before (ltb-true n k e)
    by false e =
        let past = ltb-false n k e in
        here (omega arith)
