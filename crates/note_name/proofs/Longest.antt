-- The trimmed name is the longest front part that does not end in zero.
--     Unpadded           a front part of so many bytes does not end in zero
--     zeros_after        from its end on all is 0
--     trimmed_nonzero    its last byte is not
--     trimmed_longest    it does not end in zero, and is no shorter than any front part that does not
-- Assumes nothing.
use Rattle.std.proofs.Common.{ℕ, zero, suc, ◌-◌, ◌<◌, ◌≤◌, ◌≡◌, refl, Bool, true, false, cond, List, [], ◌∷◌, arith, eqb, leb, length, get_or, eqb-true, leb-true, leb-false}
use lib.ListN.{get_or-eq_default}
use borrow.Author.Tests.{eqb-false}
use Rattle.note_name.specs.Trim.{trimmed_length}

abbrev pub Unpadded : List ℕ → ℕ → Type 0
Unpadded name n = (n ≤ length name) × (0 < n → get_or name (n - 1) 0 ≡ 0 → ⊥)

trimmed_le : (s : List ℕ) → trimmed_length s ≤ length s
unfolding trimmed_length
trimmed_le [] = omega arith
trimmed_le (b ∷ s) = by (trimmed_le s) (eqb (trimmed_length s) 0) (eqb b 0)
  where
    by : trimmed_length s ≤ length s → (t u : Bool) → cond t (cond u 0 1) (suc (trimmed_length s)) ≤ suc (length s)
    by rest true true = omega arith
    by rest true false = omega arith
    by rest false u = omega arith

zeros_after : (s : List ℕ) (k : ℕ) → trimmed_length s ≤ k → get_or s k 0 ≡ 0
unfolding trimmed_length
zeros_after [] k h = get_or-eq_default [] 0 {n = k} (omega arith)
zeros_after (b ∷ s) zero h = by (eqb (trimmed_length s) 0) (eqb b 0) refl h
  where
    by : (t u : Bool) → eqb b 0 ≡ u → cond t (cond u 0 1) (suc (trimmed_length s)) ≤ 0 → b ≡ 0
    by true true f g = eqb-true b 0 f
    by true false f g = absurd (omega arith)
    by false u f g = absurd (omega arith)
zeros_after (b ∷ s) (suc k) h = zeros_after s k (by (eqb (trimmed_length s) 0) refl (eqb b 0) h)
  where
    by : (t : Bool) → eqb (trimmed_length s) 0 ≡ t → (u : Bool) → cond t (cond u 0 1) (suc (trimmed_length s)) ≤ suc k
        → trimmed_length s ≤ k
    by true e u g = omega (arith, eqb-true (trimmed_length s) 0 e)
    by false e u g = omega arith

trimmed_nonzero : (s : List ℕ) (k : ℕ) → trimmed_length s ≡ suc k → get_or s k 0 ≡ 0 → ⊥
unfolding trimmed_length
trimmed_nonzero [] k e z = omega arith
trimmed_nonzero (b ∷ s) zero e z = by (eqb (trimmed_length s) 0) refl (eqb b 0) refl e
  where
    by : (t : Bool) → eqb (trimmed_length s) 0 ≡ t → (u : Bool) → eqb b 0 ≡ u
        → cond t (cond u 0 1) (suc (trimmed_length s)) ≡ 1 → ⊥
    by true f true g h = omega arith
    by true f false g h = eqb-false b 0 g z
    by false f u g h = eqb-false (trimmed_length s) 0 f (omega arith)
trimmed_nonzero (b ∷ s) (suc k) e z = trimmed_nonzero s k (by (eqb (trimmed_length s) 0) (eqb b 0) e) z
  where
    by : (t u : Bool) → cond t (cond u 0 1) (suc (trimmed_length s)) ≡ suc (suc k) → trimmed_length s ≡ suc k
    by true true h = absurd (omega arith)
    by true false h = absurd (omega arith)
    by false u h = omega arith

pub trimmed_longest : (name : List ℕ) → Unpadded name (trimmed_length name) ×
    ((n : ℕ) → Unpadded name n → n ≤ trimmed_length name)
trimmed_longest name = ((trimmed_le name, λ some. trimmed_nonzero name (trimmed_length name - 1) (omega arith)), longest)
  where
    longest : (n : ℕ) → Unpadded name n → n ≤ trimmed_length name
    longest n front = by (leb n (trimmed_length name)) refl
      where
        by : (t : Bool) → leb n (trimmed_length name) ≡ t → n ≤ trimmed_length name
        by true e = leb-true n (trimmed_length name) e
        by false e =
            let longer = leb-false n (trimmed_length name) e in
            absurd (front.1 (omega arith) (zeros_after name (n - 1) (omega arith)))
