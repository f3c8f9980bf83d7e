-- A run of numbers that is stored in a list, and an entry of the store.
--     sets_below, sets_above, sets_in    what stands before the run, past it, and in it
--     sets_again                         the same run once more changes nothing
--     put_entry_of                       the stores of `put_entry`, one after the other
--     put_again, length_put              the same entry once more; the store's length
-- Assumes nothing.
use Rattle.std.proofs.Common.{ℕ, zero, suc, ◌+◌, ◌-◌, ◌*◌, ◌≤◌, ◌<◌, ◌≡◌, refl, sym, ap, ◌∙◌, Bool, true, false, List, [], ◌∷◌, arith, add-zero, ltb, length, get_or, set, length-set, ext_get_or, get_or-set_same, get_or-set_other, ltb-true, ltb-false}
use lib.Seq.{sets, length-sets}
use Rattle.version.specs.Store.{entry_size, version_numbers, put_entry}
use Rattle.version.specs.declared.store.Stored.{Stored}

pub sets_below : (l : List ℕ) (i j : ℕ) (vs : List ℕ) → j < i → get_or (sets l i vs) j 0 ≡ get_or l j 0
sets_below l i j [] h = refl
sets_below l i j (a ∷ vs) h =
    sets_below (set l i a) (suc i) j vs (omega arith) ∙ get_or-set_other l i j a 0 (λ e. omega arith)

pub sets_above : (l : List ℕ) (i j : ℕ) (vs : List ℕ) → i + length vs ≤ j → get_or (sets l i vs) j 0 ≡ get_or l j 0
sets_above l i j [] h = refl
sets_above l i j (a ∷ vs) h =
    sets_above (set l i a) (suc i) j vs (omega arith) ∙ get_or-set_other l i j a 0 (λ e. omega arith)

pub sets_in : (l : List ℕ) (i k : ℕ) (vs : List ℕ) → k < length vs → i + k < length l
    → get_or (sets l i vs) (i + k) 0 ≡ get_or vs k 0
sets_in l i k [] h room = absurd (omega arith)
sets_in l i zero (a ∷ vs) h room =
    rw (add-zero i) (sets_below (set l i a) (suc i) i vs (omega arith) ∙ get_or-set_same l i a 0 (omega arith))
sets_in l i (suc k) (a ∷ vs) h room =
    let e : i + suc k ≡ suc i + k = omega arith in
    ap (λ (n : ℕ). get_or (sets (set l i a) (suc i) vs) n 0) e
    ∙ sets_in (set l i a) (suc i) k vs (omega arith) (rw (length-set l i a) (omega arith))

pub sets_again : (l : List ℕ) (i : ℕ) (vs : List ℕ) → sets (sets l i vs) i vs ≡ sets l i vs
sets_again l i vs =
    ext_get_or 0 (sets (sets l i vs) i vs) (sets l i vs) (length-sets (sets l i vs) i vs) (λ j h.
    at j (rw (length-sets (sets l i vs) i vs, length-sets l i vs) at h) (ltb j i) refl (ltb j (i + length vs)) refl)
  where
    at : (j : ℕ) → j < length l → (t : Bool) → ltb j i ≡ t → (u : Bool) → ltb j (i + length vs) ≡ u
        → get_or (sets (sets l i vs) i vs) j 0 ≡ get_or (sets l i vs) j 0
    at j h true e u f = sets_below (sets l i vs) i j vs (ltb-true j i e)
    at j h false e false f = sets_above (sets l i vs) i j vs (ltb-false j (i + length vs) f)
    at j h false e true f =
        let low : i ≤ j = ltb-false j i e in
        let high : j < i + length vs = ltb-true j (i + length vs) f in
        let k : i + (j - i) ≡ j = omega arith in
        let room : i + (j - i) < length l = omega arith in
        ap (λ (n : ℕ). get_or (sets (sets l i vs) i vs) n 0) (sym k)
        ∙ sets_in (sets l i vs) i (j - i) vs (omega arith) (rw (length-sets l i vs) room)
        ∙ sym (sets_in l i (j - i) vs (omega arith) room)
        ∙ ap (λ (n : ℕ). get_or (sets l i vs) n 0) k

pub put_entry_of : (st : List ℕ) (at a b c d e f : ℕ)
    → set (set (set (set (set (set st at a) (at + 1) b) (at + 2) c) (at + 3) d) (at + 4) e) (at + 5) f
    ≡ sets st at (a ∷ b ∷ c ∷ d ∷ e ∷ f ∷ [])
put_entry_of st at a b c d e f =
    let e₁ : at + 1 ≡ suc at = omega arith in
    let e₂ : at + 2 ≡ suc (suc at) = omega arith in
    let e₃ : at + 3 ≡ suc (suc (suc at)) = omega arith in
    let e₄ : at + 4 ≡ suc (suc (suc (suc at))) = omega arith in
    let e₅ : at + 5 ≡ suc (suc (suc (suc (suc at)))) = omega arith in
    rw (e₁, e₂, e₃, e₄, e₅)

module _ (st : List ℕ) (x : Stored) where
  pub put_again : put_entry (put_entry st x) x ≡ put_entry st x
  unfolding put_entry
  put_again = sets_again st (x.index.0 * entry_size) (version_numbers x.version)

  pub length_put : length (put_entry st x) ≡ length st
  unfolding put_entry
  length_put = length-sets st (x.index.0 * entry_size) (version_numbers x.version)
