-- A search for the first number from a on and below e that passes a test.
--     first_found               what the library's `find` answers by a closure that is the test
--     first_some, first_none    what the answer says of the search
-- Assumes nothing.
use denote.Param.Members.{Mut}
use Rattle.std.proofs.Common.{◌≡◌, ℕ, zero, suc, ◌+◌, ◌-◌, ◌≤◌, ◌<◌, Bool, true, false, List, Option, Some, None, MatchOption, Bor, refl, sym, ap, ◌∙◌, arith, ⊎_elim, le_refl, eq-or-lt_of_le}
use Rattle.std.proofs.Math.Option as Math
use Rattle.std.specs.Prelude.{⊤}
use Rattle.std.specs.declared.ops.Range.{Range}
use Rattle.std.specs.Fn.{CalledAt}
use Rattle.std.specs.Iterator.{YieldsThen}
use Rattle.std.specs.List.{FoldsTo}
use Rattle.std.proofs.iter.Yields.{nat_range_steps}
use Rattle.std.proofs.lemmas.Iterator.{first_from_Range}
use Rattle.lookup.specs.Pick.{from, first_of}
use Rattle.lookup.specs.Search.{answered, first_from}
use Rattle.lookup.proofs.Picking.{all_from, first_of_none}

-- the lowest of a run that passes is the first
first_of_at : (p : ℕ → Bool) (a k i : ℕ) → a ≤ i → i < a + k → p i ≡ true → ((j : ℕ) → a ≤ j → j < i → p j ≡ false)
    → first_of p (from a k) ≡ Math.some i
first_of_at p a zero i low high passes lower = absurd (omega arith)
first_of_at p a (suc k) i low high passes lower =
    ⊎_elim (λ z. let here : p a ≡ true = ap p z ∙ passes in rw here (ap (λ x. Math.some x) z))
    (λ more. rw (lower a (le_refl a) more)
    (first_of_at p (suc a) k i more (omega arith) passes (λ j lo hi. lower j (omega arith) hi)))
    (eq-or-lt_of_le low)

module _ (p : ℕ → Bool) (a e : ℕ) where
  is_first : (r : Option ℕ)
      → MatchOption r ((k : ℕ) → a ≤ k → k < e → p k ≡ false)
      (λ i. (a ≤ i) × (i < e) × (p i ≡ true) × ((k : ℕ) → a ≤ k → k < i → p k ≡ false))
      → r ≡ first_from p a e
  unfolding first_from
  is_first None h =
      ap answered (sym (first_of_none p (from a (e - a))
      (all_from (λ k. p k ≡ false) a (e - a) (λ k lo hi. h k lo (omega arith)))))
  is_first (Some i) h =
      ap answered (sym (first_of_at p a (e - a) i h.0 (omega (arith, h.1)) h.2 h.3))

  -- what an answer says
  pub first_some : (i : ℕ) → Some i ≡ first_from p a e → first_of p (from a (e - a)) ≡ Math.some i
  unfolding first_from
  first_some i answer = go (first_of p (from a (e - a))) answer
    where
      go : (o : Math.Option ℕ) → Some i ≡ answered o → o ≡ Math.some i
      go Math.none h = cc
      go (Math.some j) h = let z : i ≡ j = cc in ap (λ x. Math.some x) (sym z)

  pub first_none : None ≡ first_from p a e → first_of p (from a (e - a)) ≡ Math.none
  unfolding first_from
  first_none answer = go (first_of p (from a (e - a))) answer
    where
      go : (o : Math.Option ℕ) → None ≡ answered o → o ≡ Math.none
      go Math.none h = refl
      go (Math.some j) h = cc

pub first_found : {F : Type 0} {g : Mut F (Bor ℕ × Unit {0}) Bool} (s u : Range ℕ) (f : F) (r : Option ℕ) (p : ℕ → Bool)
    → (xs : List ℕ) × (j : F) × YieldsThen nat_range_steps s xs r u × FoldsTo (λ p x q. CalledAt g p x false q) f xs j
    × MatchOption r ⊤ (λ x. (h : F) × CalledAt g j x true h)
    → ((x : ℕ) (b : Bool) (q : F) → CalledAt g f x b q → (q ≡ f) × (p x ≡ b))
    → r ≡ first_from p s.start s.end
first_found s u f r p ran tests =
    is_first p s.start s.end r
    (first_from_Range s u f r (λ k. p k ≡ true) (λ k. p k ≡ false) ran (λ x q called. (tests x true q called).1)
    (λ x q called. tests x false q called))
