-- Chains that come to 0, and what `ends` and `visited` say of them.
--     chain_unique               there is one such list
--     chain_range                its numbers are above 0 and below chain_count
--     no_repeat                  no number stands in it twice
--     chain_short                it is shorter than chain_count, or chain_count is 0
--     ends_chain, chain_whole    the bound on the steps changes nothing
-- Assumes nothing.
use Rattle.std.proofs.Common.{◌≡◌, refl, sym, ap, ◌∙◌, subst, true, List, [], ◌∷◌, ℕ, zero, suc, ◌+◌, ◌-◌, ◌≤◌, ◌<◌, arith, le_refl, ltb, eqb, length, eqb-true, eq-eqb, ne_eqb, ltb-true, lt-ltb}
use borrow.Author.Tests.{eqb-false}
use Rattle.lookup.proofs.Picking.{All, all_map, by-test, and_left, and_right}
use Rattle.sysv.specs.Table.{visited}
use Rattle.sysv_check.specs.Count.{times}
use Rattle.sysv_check.specs.Rules.{ends}
use Rattle.sysv_check.specs.Accepted.{Chain}
use Rattle.sysv_check.proofs.Counting.{sum-le, sum-times, times_none}

module _ (n : ℕ) (next : ℕ → ℕ) where
  pub chain_unique : (i : ℕ) (xs ys : List ℕ) → Chain n next i xs → Chain n next i ys → xs ≡ ys
  chain_unique i [] [] h k = refl
  chain_unique i [] (y ∷ ys) h k = absurd (omega (arith, h, k.1))
  chain_unique i (x ∷ xs) [] h k = absurd (omega (arith, k, h.1))
  chain_unique i (x ∷ xs) (y ∷ ys) h k =
      let e = chain_unique (next i) xs ys h.3 k.3 in
      let a = h.0 in
      let b = k.0 in
      cc

  pub chain_range : (i : ℕ) (xs : List ℕ) → Chain n next i xs → All (λ x. (1 ≤ x) × (x < 1 + (n - 1))) xs
  chain_range i [] h = tt
  chain_range i (x ∷ xs) h =
      ((omega (arith, h.0, h.1), omega (arith, h.0, h.1, h.2)), chain_range (next i) xs h.3)

  -- from every number of a chain there is a chain, no longer
  record Tail (most j : ℕ) : Type 0 where
    rest : List ℕ
    path : Chain n next j rest
    short : length rest ≤ most

  tails : (i : ℕ) (xs : List ℕ) → Chain n next i xs → All (Tail (length xs)) xs
  tails i [] h = tt
  tails i (x ∷ xs) h = (
    record { rest = x ∷ xs; path = rw h.0 (refl, h.1, h.2, h.3); short = le_refl _ },
    all_map (λ j w. record { rest = w.rest; path = w.path; short = omega (arith, w.short) }) xs (tails (next i) xs h.3),
  )

  pub no_repeat : (i : ℕ) (xs : List ℕ) → Chain n next i xs → (j : ℕ) → times j xs ≤ 1
  no_repeat i [] h j = omega arith
  no_repeat i (x ∷ xs) h j =
      by-test (eqb x j)
      (λ e. let same = eqb-true x j e in
      let none_there : times j xs ≡ 0 = times_none j xs (all_map (λ y w y-is-j.
      let whole : Chain n next i w.rest = subst (λ m. Chain n next m w.rest) (y-is-j ∙ sym same ∙ h.0) w.path in
      let long = ap length (chain_unique i w.rest (x ∷ xs) whole h) in
      omega (arith, w.short)) xs (tails (next i) xs h.3)) in
      rw e (omega arith))
      (λ e. let r = no_repeat (next i) xs h.3 j in rw e (omega arith))

  pub chain_short : (i : ℕ) (xs : List ℕ) → Chain n next i xs → length xs ≤ n - 1
  chain_short i xs h =
      let all = sum-times 1 (n - 1) xs (chain_range i xs h) in
      let few = sum-le (λ j. times j xs) 1 (n - 1) (λ j lo hi. no_repeat i xs h j) in
      omega arith

  pub ends_chain : (k i : ℕ) → ends n next k i ≡ true → Chain n next i (visited n next k i)
  unfolding ends visited
  ends_chain zero i h = eqb-true i 0 h
  ends_chain (suc k) i h =
      by-test (eqb i 0)
      (λ e. rw e (eqb-true i 0 e))
      (λ e. let h' = rw e at h in
      let below = and_left (ltb i n) (ends n next k (next i)) h' in
      let on = and_right (ltb i n) (ends n next k (next i)) h' in
      let ne = eqb-false i 0 e in
      rw (e, below) (refl, omega arith, ltb-true i n below, ends_chain k (next i) on))

  chain_ends : (k i : ℕ) (xs : List ℕ) → Chain n next i xs → length xs ≤ k
      → (ends n next k i ≡ true) × (visited n next k i ≡ xs)
  unfolding ends visited
  chain_ends zero i [] h few = (eq-eqb i 0 h, refl)
  chain_ends (suc k) i [] h few = (rw (eq-eqb i 0 h), rw (eq-eqb i 0 h))
  chain_ends zero i (x ∷ xs) h few = absurd (omega arith)
  chain_ends (suc k) i (x ∷ xs) h few =
      let r = chain_ends k (next i) xs h.3 (omega arith) in
      let ne : ¬ (i ≡ 0) = λ z. omega (arith, h.1) in
      (rw (ne_eqb i 0 ne, lt-ltb i n h.2) r.0, rw (ne_eqb i 0 ne, lt-ltb i n h.2, r.1, h.0))

  pub chain_whole : (i : ℕ) (xs : List ℕ) → Chain n next i xs → (ends n next n i ≡ true) × (visited n next n i ≡ xs)
  chain_whole i xs h = let few = chain_short i xs h in chain_ends n i xs h (omega arith)
