-- The least number of which something holds, if there is one.
--     Least             what it says of an answer
--     least_unique      there is one such answer
--     least_map         of two facts that imply each other it is the same
--     lesser_least      of either of two facts it is the lesser
--     first_of_least    the first of the numbers below n that passes is the least
-- Assumes nothing.
use native.Mathlib.Nat.{min-eq_left, min-eq_right}
use Rattle.std.proofs.Common.{◌≡◌, ℕ, ◌≤◌, ◌<◌, Bool, true, false, leb, Option, Some, None, refl, sym, ap, ◌∙◌, arith, ◌⊎◌, inl, inr, ⊎_elim, true≢false, leb-true, leb-false}
use Rattle.std.proofs.Math.Option as Math
use Rattle.lookup.specs.Pick.{from, first_of}
use Rattle.lookup.specs.Search.{answered}
use Rattle.gnu_check_buckets.specs.Runs.{lesser}
use Rattle.lookup.proofs.Picking.{from_all, none_first_of, first_of_lowest, by-test}

abbrev pub Least : (ℕ → Type 0) → Option ℕ → Type 0
Least P None = (c : ℕ) → P c → ⊥
Least P (Some b) = P b × ((c : ℕ) → c < b → P c → ⊥)

pub least_unique : (P : ℕ → Type 0) (o o' : Option ℕ) → Least P o → Least P o' → o ≡ o'
least_unique P None None h k = refl
least_unique P None (Some b) h k = absurd (h b k.0)
least_unique P (Some a) None h k = absurd (k a h.0)
least_unique P (Some a) (Some b) h k =
    let not-less : ¬ (a < b) = λ less. k.1 a less h.0 in
    let not_more : ¬ (b < a) = λ less. h.1 b less k.0 in
    let same : a ≡ b = omega arith in
    ap (λ x. Some x) same

pub least_map : (P Q : ℕ → Type 0) → ((c : ℕ) → P c → Q c) → ((c : ℕ) → Q c → P c) → (o : Option ℕ) → Least P o → Least Q o
least_map P Q f g None h = λ c q. h c (g c q)
least_map P Q f g (Some b) h = (f b h.0, λ c less q. h.1 c less (g c q))

pub lesser_least : (P Q : ℕ → Type 0) (o o' : Option ℕ) → Least P o → Least Q o' → Least (λ c. P c ⊎ Q c) (lesser o o')
lesser_least P Q None None h k = λ c. ⊎_elim (h c) (k c)
lesser_least P Q None (Some b) h k = (inr k.0, λ c less. ⊎_elim (h c) (k.1 c less))
lesser_least P Q (Some a) None h k = (inl h.0, λ c less. ⊎_elim (h.1 c less) (k c))
lesser_least P Q (Some a) (Some b) h k =
    by-test (leb a b)
    (λ e. let le = leb-true a b e in rw (min-eq_left le)
    (inl h.0, λ c less. ⊎_elim (h.1 c less) (k.1 c (omega arith))))
    (λ e. let gt = leb-false a b e in let le : b ≤ a = omega arith in
    rw (min-eq_right le) (inr k.0, λ c less. ⊎_elim (h.1 c (omega arith)) (k.1 c less)))

pub first_of_least : (p : ℕ → Bool) (n : ℕ) → Least (λ c. (c < n) × (p c ≡ true)) (answered (first_of p (from 0 n)))
first_of_least p n = go (first_of p (from 0 n)) refl
  where
    go : (o : Math.Option ℕ) → first_of p (from 0 n) ≡ o → Least (λ c. (c < n) × (p c ≡ true)) (answered o)
    go Math.none e =
        λ c h. true≢false (sym h.1 ∙ from_all (λ j. p j ≡ false) 0 n (none_first_of p (from 0 n) e) c (omega arith)
        (omega (arith, h.0)))
    go (Math.some b) e =
        let l = first_of_lowest p 0 n b e in
        ((omega (arith, l.high), l.passes), λ c less h. true≢false (sym h.1 ∙ l.none_lower c (omega arith) less))
