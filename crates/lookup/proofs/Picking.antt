-- Laws of `Pick`, for both hash tables.
--     by-test, and_left, and_right, not_none, beq_eq, test_ext, either                               tests and sums taken apart
--     All, all_map, all_from, from_all                                                               every element of a list; of a run of numbers, each of them
--     length_from, from-append, from_cons                                                            a run of numbers
--     largest-le, largest_upper                                                                      the largest is no less than each, and no more than a bound of all
--     all-select, select-all, select-append, select_none, select_front                               what was selected
--     first_of_none, none_first_of, first_of_passes, first_of_hit, first_of_select, first_of_cong    what was found, and what that says
--     Lowest, first_of_lowest                                                                        the first of a run is its lowest
--     length_up_to, up_to_from                                                                       the front up to the first
-- Assumes nothing.
use Rattle.std.proofs.Common.{◌≡◌, refl, sym, ap, ◌∙◌, subst, Bool, true, false, not, ◌&&◌, true≢false, List, [], ◌∷◌, map, ◌++◌, ℕ, zero, suc, ◌+◌, ◌-◌, ◌≤◌, ◌<◌, add-one, arith, add-zero, add-suc, le_refl, suc-add, zero-add, eq-or-lt_of_le, ◌⊎◌, inl, inr, ⊎_elim, length}
use mathlib.Core.Bool.{beq}
use mathlib.Core.Option.{some, none, some-ne-none, none-ne-some}
use Rattle.lookup.specs.Pick.{from, select, first_of, up_to, largest}

-- ---- tests

-- a test is true or false, and each case knows which
pub by-test {ℓ} : {C : Type ℓ} (b : Bool) → (b ≡ true → C) → (b ≡ false → C) → C
by-test true yes' no' = yes' refl
by-test false yes' no' = no' refl

pub and_left : (a b : Bool) → (a && b) ≡ true → a ≡ true
and_left true b h = refl
and_left false b h = h

pub and_right : (a b : Bool) → (a && b) ≡ true → b ≡ true
and_right true b h = h
and_right false b h = cc

pub not_none : (b : Bool) → not b ≡ false → b ≡ true
not_none true h = refl
not_none false h = sym h

pub beq_eq : (a b : Bool) → beq a b ≡ true → a ≡ b
beq_eq true true h = refl
beq_eq true false h = sym h
beq_eq false true h = h
beq_eq false false h = refl

-- equal where each implies the other
pub test_ext : (a b : Bool) → (a ≡ true → b ≡ true) → (b ≡ true → a ≡ true) → a ≡ b
test_ext true b f g = sym (f refl)
test_ext false true f g = g refl
test_ext false false f g = refl

-- ---- all the elements of a list

abbrev pub All {ℓ κ} : {A : Type ℓ} → (A → Type κ) → List A → Type κ
All P [] = Unit
All P (x ∷ xs) = P x × All P xs

pub all_map {ℓ κ μ} : {A : Type ℓ} {P : A → Type κ} {Q : A → Type μ} → ((x : A) → P x → Q x) → (xs : List A) → All P xs → All Q xs
all_map f [] h = tt
all_map f (x ∷ xs) h = (f x h.0, all_map f xs h.1)

pub all_from {ℓ} : (P : ℕ → Type ℓ) (a k : ℕ) → ((i : ℕ) → a ≤ i → i < a + k → P i) → All P (from a k)
all_from P a zero h = tt
all_from P a (suc k) h = (h a (omega arith) (omega arith), all_from P (suc a) k (λ i lo hi. h i (omega arith) (omega arith)))

pub from_all {ℓ} : (P : ℕ → Type ℓ) (a k : ℕ) → All P (from a k) → (i : ℕ) → a ≤ i → i < a + k → P i
from_all P a zero h i lo hi = absurd (omega arith)
from_all P a (suc k) h i lo hi =
    ⊎_elim (λ e. subst P e h.0) (λ more. from_all P (suc a) k h.1 i more (omega arith)) (eq-or-lt_of_le lo)

-- ---- lists of numbers

pub length_from : (a k : ℕ) → length (from a k) ≡ k
length_from a zero = refl
length_from a (suc k) = ap suc (length_from (suc a) k)

pub from_cons : (i e : ℕ) → i < e → from i (e - i) ≡ i ∷ from (i + 1) (e - (i + 1))
from_cons i e more =
    let s : e - i ≡ suc (e - (i + 1)) = omega arith in
    rw (s, add-one i)

pub largest-le : (f : ℕ → ℕ) (a k b : ℕ) → a ≤ b → b < a + k → f b ≤ largest (map f (from a k))
largest-le f a zero b lo hi = absurd (omega arith)
largest-le f a (suc k) b lo hi =
    ⊎_elim (λ e. omega (arith, ap f e)) (λ more. let r = largest-le f (suc a) k b more (omega arith) in omega arith) (eq-or-lt_of_le lo)

-- ---- first, select, up_to

module _ {A : Type 0} (p : A → Bool) where
  -- every element that was selected passes, and is an element of the list
  pub all-select {κ} : (P : A → Type κ) (xs : List A) → All P xs → All (λ x. P x × (p x ≡ true)) (select p xs)
  all-select P [] h = tt
  all-select P (x ∷ xs) h =
      by-test (p x) (λ e. rw e ((h.0, e), all-select P xs h.1)) (λ e. rw e (all-select P xs h.1))

  -- what holds of every selected element holds of every element that passes
  pub select-all {κ} : (P : A → Type κ) (xs : List A) → All P (select p xs) → All (λ x. p x ≡ true → P x) xs
  select-all P [] h = tt
  select-all P (x ∷ xs) h =
      by-test (p x) (λ e. let h' = rw e at h in ((λ _. h'.0), select-all P xs h'.1))
      (λ e. let h' = rw e at h in ((λ e'. absurd (true≢false (sym e' ∙ e))), select-all P xs h'))

  pub first_of_none : (xs : List A) → All (λ x. p x ≡ false) xs → first_of p xs ≡ none
  first_of_none [] h = refl
  first_of_none (x ∷ xs) h = rw h.0 (first_of_none xs h.1)

  pub none_first_of : (xs : List A) → first_of p xs ≡ none → All (λ x. p x ≡ false) xs
  none_first_of [] h = tt
  none_first_of (x ∷ xs) h =
      by-test (p x) (λ e. let h' = rw e at h in absurd (some-ne-none x h')) (λ e. (e, none_first_of xs (rw e at h)))

  -- the first of the list is the first of a selection that drops no match
  pub first_of_select : (q : A → Bool) (xs : List A) → All (λ x. p x ≡ true → q x ≡ true) xs → first_of p (select q xs) ≡ first_of p xs
  first_of_select q [] h = refl
  first_of_select q (x ∷ xs) h =
      by-test (p x) (λ e. rw (h.0 e, e))
      (λ e. by-test (q x) (λ e'. rw (e', e) (first_of_select q xs h.1)) (λ e'. rw (e', e) (first_of_select q xs h.1)))

  pub first_of_cong : (q : A → Bool) (xs : List A) → All (λ x. p x ≡ q x) xs → first_of p xs ≡ first_of q xs
  first_of_cong q [] h = refl
  first_of_cong q (x ∷ xs) h = rw (h.0, first_of_cong q xs h.1)

  pub length_up_to : (xs : List A) → length (up_to p xs) ≤ length xs
  length_up_to [] = le_refl 0
  length_up_to (x ∷ xs) = by-test (p x) (λ e. rw e (omega arith)) (λ e. let r = length_up_to xs in rw e (omega arith))

-- up to the only number of a run that passes, at its end
pub up_to_from : (p : ℕ → Bool) (s k m : ℕ) → ((i : ℕ) → s ≤ i → i < s + k → p i ≡ false) → p (s + k) ≡ true
    → up_to p (from s (suc (k + m))) ≡ from s (suc k)
up_to_from p s zero m before last = let e : p s ≡ true = rw add-zero at last in rw e
up_to_from p s (suc k) m before last =
    let r = up_to_from p (suc s) k m (λ i lo hi. before i (omega arith) (omega arith)) (rw (add-suc, ← suc-add) at last) in
    rw (before s (omega arith) (omega arith), suc-add) (ap (λ l. s ∷ l) r)

pub first_of_hit : (p : ℕ → Bool) (a k : ℕ) → 0 < k → p a ≡ true → first_of p (from a k) ≡ some a
first_of_hit p a zero more h = absurd (omega arith)
first_of_hit p a (suc k) more h = rw h

-- what is found passes
pub first_of_passes : {A : Type 0} (p : A → Bool) (xs : List A) (y : A) → first_of p xs ≡ some y → p y ≡ true
first_of_passes p [] y h = cc
first_of_passes p (x ∷ xs) y h =
    by-test (p x) (λ e. let same = rw e at h in let z : x ≡ y = cc in rw (← z) e) (λ e. first_of_passes p xs y (rw e at h))

-- the first of a run is its lowest
pub record Lowest (p : ℕ → Bool) (a e i : ℕ) : Type 0 where
  pub low : a ≤ i
  pub high : i < e
  pub passes : p i ≡ true
  pub none_lower : (j : ℕ) → a ≤ j → j < i → p j ≡ false

pub first_of_lowest : (p : ℕ → Bool) (a k i : ℕ) → first_of p (from a k) ≡ some i → Lowest p a (a + k) i
first_of_lowest p a zero i h = absurd (none-ne-some i h)
first_of_lowest p a (suc k) i h =
    by-test (p a)
    (λ e. let h' = rw e at h in let z : a ≡ i = cc in
    record { low = omega arith; high = omega arith; passes = rw (← z) e; none_lower = λ j lo hi. absurd (omega arith) })
    (λ e. let r = first_of_lowest p (suc a) k i (rw e at h) in
    record {
      low = omega arith;
      high = omega arith;
      passes = r.passes;
      none_lower = λ j lo hi.
          ⊎_elim (λ z. rw (← z) e) (λ more. r.none_lower j more hi) (eq-or-lt_of_le lo);
    })

-- ---- runs of numbers

pub from-append : (a j k : ℕ) → from a (j + k) ≡ from a j ++ from (a + j) k
from-append a zero k = rw (zero-add, add-zero)
from-append a (suc j) k = rw (suc-add, from-append (suc a) j k, suc-add, add-suc)

pub select-append : {A : Type 0} (p : A → Bool) (xs ys : List A) → select p (xs ++ ys) ≡ select p xs ++ select p ys
select-append p [] ys = refl
select-append p (x ∷ xs) ys =
    by-test (p x) (λ e. rw e (ap (λ l. x ∷ l) (select-append p xs ys))) (λ e. rw e (select-append p xs ys))

pub select_none : {A : Type 0} (p : A → Bool) (xs : List A) → All (λ x. p x ≡ false) xs → select p xs ≡ []
select_none p [] h = refl
select_none p (x ∷ xs) h = rw h.0 (select_none p xs h.1)

-- what passes, passes from the start of the run on: the selection is a run from there
pub select_front : (p : ℕ → Bool) (a k : ℕ) → ((i j : ℕ) → a ≤ j → j ≤ i → i < a + k → p i ≡ true → p j ≡ true)
    → select p (from a k) ≡ from a (length (select p (from a k)))
select_front p a zero closed = refl
select_front p a (suc k) closed =
    by-test (p a) (λ e. rw e (ap (λ l. a ∷ l) (select_front p (suc a) k (λ i j lo mid hi. closed i j (omega arith) mid (omega arith)))))
    (λ e. let none_there = select_none p (from (suc a) k) (all_from (λ i. p i ≡ false) (suc a) k
    (λ i lo hi. by-test (p i) (λ h. absurd (true≢false (sym (closed i a (le_refl a) (omega arith) (omega arith) h) ∙ e))) (λ h. h))) in
    rw (e, none_there))

pub largest_upper : (f : ℕ → ℕ) (m : ℕ) (xs : List ℕ) → All (λ x. f x ≤ m) xs → largest (map f xs) ≤ m
largest_upper f m [] h = omega arith
largest_upper f m (x ∷ xs) h = let rest = largest_upper f m xs h.1 in let here = h.0 in omega arith

-- a sum taken apart, the sum first: the arms then know their type
pub either {ℓ} : {A B : Type 0} {C : Type ℓ} → A ⊎ B → (A → C) → (B → C) → C
either (inl a) f g = f a
either (inr b) f g = g b
