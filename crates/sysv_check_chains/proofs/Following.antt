-- The checker's walk along a chain, number by number, and along the chains.
--     Following                                    a walk that stands at a number, with so many steps left: what is left of the chain gives the answer
--     following_start, _zero, _spent, _bad, _on    at its start; at 0; with no step left; at a number that may not stand there; at another
--     range_wrong                                  a chain on which a number is out of range, or that does not end: something is wrong with it
--     Passing                                      a pass that stands at a bucket, with so many steps left: the buckets that are left give the answer
--     passing_start, _wrong, _on, _end             at its start; a chain with something wrong; a chain without; after the last
-- Assumes nothing.
use Rattle.std.proofs.Common.{◌≡◌, ℕ, zero, suc, ◌+◌, ◌-◌, ◌≤◌, ◌<◌, Bool, true, false, ◌&&◌, List, [], ◌∷◌, leb, ltb, eqb, Option, Some, None, is_some, refl, sym, ap, ◌∙◌, arith, add-one, ne_eqb}
use Rattle.lookup.specs.Pick.{from}
use Rattle.lookup.proofs.Picking.{by-test, and_left, and_right}
use Rattle.sysv_check_chains.specs.Pass.{in_range, may_stand, follow, follow_all, spent, all_spent}

module _ (chain : ℕ → ℕ) (may : ℕ → Bool) (left start : ℕ) where
  abbrev along : Option ℕ
  along = follow chain may left start

  unfoldable pub Following : (i k : ℕ) → Type 0
  Following i k = follow chain may k i ≡ along

  pub following_start : Following start left
  unfolding Following
  following_start = refl

  at_zero : (k : ℕ) → follow chain may k 0 ≡ Some k
  unfolding follow
  at_zero zero = refl
  at_zero (suc k) = refl

  module _ (i k : ℕ) (at : Following i k) where
    pub following_zero : i ≡ 0 → Some k ≡ along
    unfolding Following
    following_zero z = sym (at_zero k) ∙ (rw z at at)

    module _ (there : ¬ (i ≡ 0)) where
      pub following_spent : k ≡ 0 → None ≡ along
      unfolding Following follow
      following_spent none_left = by k none_left at
        where
          by : (k : ℕ) → k ≡ 0 → follow chain may k i ≡ along → None ≡ along
          by zero e h = sym (rw (ne_eqb i 0 there)) ∙ h
          by (suc k) e h = absurd (omega arith)

      pub following_bad : may i ≡ false → None ≡ along
      unfolding Following follow
      following_bad bad = by k at
        where
          by : (k : ℕ) → follow chain may k i ≡ along → None ≡ along
          by zero h = sym (rw (ne_eqb i 0 there)) ∙ h
          by (suc k) h = sym (rw (ne_eqb i 0 there, bad)) ∙ h

      pub following_on : 0 < k → may i ≡ true → Following (chain i) (k - 1)
      unfolding Following follow
      following_on more good = by k more at
        where
          by : (k : ℕ) → 0 < k → follow chain may k i ≡ along → follow chain may (k - 1) (chain i) ≡ along
          by zero m h = absurd (omega arith)
          by (suc k) m h = let s : suc k - 1 ≡ k = omega arith in rw s (rw (ne_eqb i 0 there, good) at h)

-- a walk that goes wrong by one test goes wrong by every stricter one
stricter : (chain : ℕ → ℕ) (p q : ℕ → Bool) → ((i : ℕ) → q i ≡ true → p i ≡ true) → (k i : ℕ) → follow chain p k i ≡ None
    → follow chain q k i ≡ None
unfolding follow
stricter chain p q weak zero i h = h
stricter chain p q weak (suc k) i h =
    by-test (eqb i 0)
    (λ e. rw e (rw e at h))
    (λ e. by-test (q i)
    (λ g. rw (e, g) (stricter chain p q weak k (chain i) (rw (e, weak i g) at h)))
    (λ g. rw (e, g)))

not_ended : (o : Option ℕ) → is_some o ≡ false → o ≡ None
not_ended None h = refl
not_ended (Some k) h = cc

ranged : (home : ℕ → ℕ) (low count b i : ℕ) → may_stand home low count b i ≡ true → in_range low count i ≡ true
ranged home low count b i h =
    let rest = and_right (leb low i) (ltb i count && eqb (home i) b) h in
    rw (and_left (leb low i) (ltb i count && eqb (home i) b) h, and_left (ltb i count) (eqb (home i) b) rest)

pub range_wrong : (chain home : ℕ → ℕ) (low count b k i : ℕ)
    → is_some (follow chain (in_range low count) k i) ≡ false
    → follow chain (may_stand home low count b) k i ≡ None
range_wrong chain home low count b k i h =
    stricter chain (in_range low count) (may_stand home low count b) (ranged home low count b) k i
    (not_ended (follow chain (in_range low count) k i) h)

module _ (chain bucket : ℕ → ℕ) (may : (b i : ℕ) → Bool) (buckets steps : ℕ) where
  abbrev whole : Bool
  whole = all_spent chain bucket may buckets steps

  -- what the buckets that are left answer
  abbrev rest : ℕ → Option ℕ → Bool
  rest b o = spent (follow_all chain bucket may (from b (buckets - b)) o)

  unfoldable pub Passing : (b k : ℕ) → Type 0
  Passing b k = rest b (Some k) ≡ whole

  pub passing_start : Passing 0 steps
  unfolding Passing
  passing_start = let z : buckets - 0 ≡ buckets = omega arith in rw z

  none_on : (bs : List ℕ) → follow_all chain bucket may bs None ≡ None
  unfolding follow_all
  none_on [] = refl
  none_on (b ∷ bs) = none_on bs

  module _ (b k : ℕ) (at : Passing b k) where
    pub passing_end : buckets ≤ b → eqb k 0 ≡ whole
    unfolding Passing follow_all
    passing_end done =
        let z : buckets - b ≡ 0 = omega arith in
        let last : rest b (Some k) ≡ eqb k 0 = rw z in
        sym last ∙ at

    module _ (more : b < buckets) where
      next : rest b (Some k) ≡ rest (b + 1) (follow chain (may b) k (bucket b))
      unfolding follow_all
      next = let s : buckets - b ≡ suc (buckets - (b + 1)) = omega arith in rw (s, add-one b)

      pub passing_wrong : follow chain (may b) k (bucket b) ≡ None → false ≡ whole
      unfolding Passing
      passing_wrong wrong =
          let ends : rest b (Some k) ≡ false = next ∙ (rw (wrong, none_on (from (b + 1) (buckets - (b + 1))))) in
          sym ends ∙ at

      pub passing_on : (j : ℕ) → follow chain (may b) k (bucket b) ≡ Some j → Passing (b + 1) j
      unfolding Passing
      passing_on j left =
          let on : rest b (Some k) ≡ rest (b + 1) (Some j) = next ∙ (rw left) in
          sym on ∙ at
