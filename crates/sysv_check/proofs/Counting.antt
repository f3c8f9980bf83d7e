-- Counting by runs: sums over a run of numbers, how often a number stands in a list, and the pigeonholes.
--     every_all, all_every                              a test of all elements, and the fact
--     all_append                                        of two lists laid together
--     times-append, times_none, all-times, times-all    how often a number stands in a list, and what holds of its elements
--     sum                                               f a + f (a + 1) + .., k summands
--     sum_single, sum_ones, sum-times                   one summand that is not 0; all 1; a list of numbers of a run is as long as the sum
--                                      of how often each number of the run stands in it
--     all_ones    k summands of at most 1 that add up to k are all 1
-- Assumes nothing.
use Rattle.std.proofs.Common.{◌≡◌, refl, sym, ap, ◌∙◌, subst, Bool, true, cond, ⊎_elim, List, [], ◌∷◌, ◌++◌, ℕ, zero, suc, ◌+◌, ◌≤◌, ◌<◌, arith, le_refl, eq-or-lt_of_le, eqb, length, eqb-true, eq-eqb, ne_eqb}
use Rattle.sysv_check.specs.Count.{every, times}
use Rattle.lookup.proofs.Picking.{All, by-test, and_left, and_right}

pub every_all : (p : ℕ → Bool) (xs : List ℕ) → every p xs ≡ true → All (λ x. p x ≡ true) xs
every_all p [] h = tt
every_all p (x ∷ xs) h = (and_left (p x) (every p xs) h, every_all p xs (and_right (p x) (every p xs) h))

pub all_every : (p : ℕ → Bool) (xs : List ℕ) → All (λ x. p x ≡ true) xs → every p xs ≡ true
all_every p [] h = refl
all_every p (x ∷ xs) h = rw h.0 (all_every p xs h.1)

pub all_append {ℓ} : (P : ℕ → Type ℓ) (xs ys : List ℕ) → All P xs → All P ys → All P (xs ++ ys)
all_append P [] ys h k = k
all_append P (x ∷ xs) ys h k = (h.0, all_append P xs ys h.1 k)

-- ---- how often a number stands in a list

pub times-append : (j : ℕ) (xs ys : List ℕ) → times j (xs ++ ys) ≡ times j xs + times j ys
times-append j [] ys = omega arith
times-append j (x ∷ xs) ys = let r = times-append j xs ys in omega arith

pub times_none : (j : ℕ) (xs : List ℕ) → All (λ x. ¬ (x ≡ j)) xs → times j xs ≡ 0
times_none j [] h = refl
times_none j (x ∷ xs) h = rw (ne_eqb x j h.0, times_none j xs h.1)

-- what holds of every number that stands in a list at least once holds of all its elements
pub all-times {ℓ} : (P : ℕ → Type ℓ) (xs : List ℕ) → ((x : ℕ) → 0 < times x xs → P x) → All P xs
all-times P [] f = tt
all-times P (x ∷ xs) f = (f x (rw (eq-eqb x x refl) (omega arith)), all-times P xs (λ y h. f y (omega arith)))

-- ---- sums over a run

abbrev pub sum : (ℕ → ℕ) → ℕ → ℕ → ℕ
sum f a zero = 0
sum f a (suc k) = f a + sum f (suc a) k

pub sum-add : (f g : ℕ → ℕ) (a k : ℕ) → sum (λ i. f i + g i) a k ≡ sum f a k + sum g a k
sum-add f g a zero = refl
sum-add f g a (suc k) = let r = sum-add f g (suc a) k in omega arith

pub sum_zero : (f : ℕ → ℕ) (a k : ℕ) → ((i : ℕ) → a ≤ i → i < a + k → f i ≡ 0) → sum f a k ≡ 0
sum_zero f a zero same = refl
sum_zero f a (suc k) same =
    let here = same a (omega arith) (omega arith) in
    let r = sum_zero f (suc a) k (λ i lo hi. same i (omega arith) (omega arith)) in
    omega arith

pub sum_ones : (f : ℕ → ℕ) (a k : ℕ) → ((i : ℕ) → a ≤ i → i < a + k → f i ≡ 1) → sum f a k ≡ k
sum_ones f a zero same = refl
sum_ones f a (suc k) same =
    let here = same a (omega arith) (omega arith) in
    let r = sum_ones f (suc a) k (λ i lo hi. same i (omega arith) (omega arith)) in
    omega arith

pub sum-le : (f : ℕ → ℕ) (a k : ℕ) → ((i : ℕ) → a ≤ i → i < a + k → f i ≤ 1) → sum f a k ≤ k
sum-le f a zero few = le_refl 0
sum-le f a (suc k) few =
    let here = few a (omega arith) (omega arith) in
    let r = sum-le f (suc a) k (λ i lo hi. few i (omega arith) (omega arith)) in
    omega arith

-- where all but one summand are 0, the sum is that one
pub sum_single : (f : ℕ → ℕ) (a k c : ℕ) → a ≤ c → c < a + k
    → ((i : ℕ) → a ≤ i → i < a + k → ¬ (i ≡ c) → f i ≡ 0) → sum f a k ≡ f c
sum_single f a zero c lo hi others = absurd (omega arith)
sum_single f a (suc k) c lo hi others =
    ⊎_elim
    (λ e. let r = sum_zero f (suc a) k (λ i lo' hi'. others i (omega arith) (omega arith) (λ z. omega arith)) in
    let same = ap f e in omega arith)
    (λ more. let r = sum_single f (suc a) k c more (omega arith) (λ i lo' hi' ne. others i (omega arith) (omega arith) ne) in
    let here = others a (omega arith) (omega arith) (λ z. omega arith) in omega arith)
    (eq-or-lt_of_le lo)

-- 1 for a number itself, 0 for every other
abbrev one : ℕ → ℕ → ℕ
one x j = cond (eqb x j) 1 0

sum_one : (x a k : ℕ) → a ≤ x → x < a + k → sum (one x) a k ≡ 1
sum_one x a k lo hi =
    sum_single (one x) a k x lo hi (λ i lo' hi' ne. rw (ne_eqb x i (λ z. ne (sym z)))) ∙ (rw (eq-eqb x x refl))

-- each element of the list is counted once, at its own number
pub sum-times : (a k : ℕ) (xs : List ℕ) → All (λ x. (a ≤ x) × (x < a + k)) xs → sum (λ i. times i xs) a k ≡ length xs
sum-times a k [] h = sum_zero (λ i. 0) a k (λ i lo hi. refl)
sum-times a k (x ∷ xs) h =
    let r = sum-times a k xs h.1 in
    let here = sum_one x a k h.0.0 h.0.1 in
    let both = sum-add (one x) (λ i. times i xs) a k in
    omega arith

-- the pigeonholes
pub all_ones : (f : ℕ → ℕ) (a k : ℕ) → ((i : ℕ) → a ≤ i → i < a + k → f i ≤ 1) → sum f a k ≡ k
    → (i : ℕ) → a ≤ i → i < a + k → f i ≡ 1
all_ones f a zero few full i lo hi = absurd (omega arith)
all_ones f a (suc k) few full i lo hi =
    let rest-few : (j : ℕ) → suc a ≤ j → j < suc a + k → f j ≤ 1 = λ j lo' hi'. few j (omega arith) (omega arith) in
    let here = few a (omega arith) (omega arith) in
    let rest = sum-le f (suc a) k rest-few in
    ⊎_elim (λ e. let same = ap f e in omega arith)
    (λ more. all_ones f (suc a) k rest-few (omega arith) i more (omega arith))
    (eq-or-lt_of_le lo)

-- what holds of all elements holds of every number that stands in the list
pub times-all {ℓ} : (P : ℕ → Type ℓ) (j : ℕ) (xs : List ℕ) → All P xs → 0 < times j xs → P j
times-all P j [] h more = absurd (omega arith)
times-all P j (x ∷ xs) h more =
    by-test (eqb x j) (λ e. subst P (eqb-true x j e) h.0)
    (λ e. let more' : 0 < 0 + times j xs = rw e at more in times-all P j xs h.1 (omega arith))
