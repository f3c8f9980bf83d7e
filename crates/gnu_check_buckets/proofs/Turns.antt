-- The pass over the runs, turn by turn: its invariant, and the laws of that.
--     Passing    the pass for misplaced symbols, at symbol i: what it knows of the symbol before, and that the rest gives
--                 the answer
--     passing_start, passing_next, passing_end
-- Assumes nothing.
use native.Mathlib.Nat.{sub_self}
use Rattle.std.proofs.Common.{◌≡◌, ℕ, zero, suc, ◌+◌, ◌-◌, ◌≤◌, ◌<◌, min, Bool, true, false, cond, not, eqb, Option, Some, None, refl, sym, ap, ◌∙◌, arith, ◌⊎◌, inl, inr, le_refl, add-one}
use Rattle.lookup.proofs.Picking.{by-test, either}
use Rattle.gnu_table.specs.Table.{GnuTable}
use Rattle.gnu_rules.specs.Rules.{gnu_bucket_of}
use Rattle.gnu_check_buckets.specs.Runs.{lesser, is_bucket, run_start, misplaced, least_misplaced}

lesser_none : (o : Option ℕ) → lesser o None ≡ o
lesser_none None = refl
lesser_none (Some a) = refl

lesser_assoc : (a b c : Option ℕ) → lesser (lesser a b) c ≡ lesser a (lesser b c)
lesser_assoc None b c = refl
lesser_assoc (Some a) None c = refl
lesser_assoc (Some a) (Some b) None = refl
lesser_assoc (Some a) (Some b) (Some c) =
    let same : min (min a b) c ≡ min a (min b c) = omega arith in
    ap (λ x. Some x) same

module _ (t : GnuTable) where
  -- nothing is known at symbol_base; past it, the bucket of the symbol before, and where its run starts
  abbrev Behind : (start : ℕ) → (last : Option ℕ) → (i : ℕ) → Type 0
  Behind start last i =
      ((i ≡ t.base) × (last ≡ None))
      ⊎ ((t.base < i) × (last ≡ Some (gnu_bucket_of t (i - 1))) × (start ≡ run_start t (i - 1 - t.base)))

  -- the lowest bucket of a misplaced symbol from i on
  abbrev least_from : ℕ → Option ℕ
  least_from i = least_misplaced t i (t.count - i)

  pub record Passing (best : Option ℕ) (start : ℕ) (last : Option ℕ) (i : ℕ) : Type 0 where
    pub low : t.base ≤ i
    pub behind : Behind start last i
    pub least : lesser best (least_from i) ≡ least_from t.base

  start_is : (start : ℕ) (last : Option ℕ) (i : ℕ) → Behind start last i
      → cond (is_bucket (gnu_bucket_of t i) last) start i ≡ run_start t (i - t.base)
  unfolding run_start
  start_is start last i h =
      either h
      (λ h. rw (h.1, h.0, sub_self))
      (λ h.
      let k = i - 1 - t.base in
      let next : i - t.base ≡ suc k = omega arith in
      let here : t.base + suc k ≡ i = omega arith in
      let before : t.base + k ≡ i - 1 = omega arith in
      rw (next, here, before, h.1, h.2))

  least_step : (i : ℕ) → i < t.count
      → least_from i ≡ lesser (cond (misplaced t i) (Some (gnu_bucket_of t i)) None) (least_from (i + 1))
  unfolding least_misplaced
  least_step i more =
      let one : t.count - i ≡ suc (t.count - (i + 1)) = omega arith in
      rw (one, add-one i)

  pub passing_start : Passing None t.base None t.base
  passing_start = record { low = le_refl _; behind = inl (refl, refl); least = refl }

  module _ (best : Option ℕ) (start : ℕ) (last : Option ℕ) (i : ℕ) (so_far : Passing best start last i) where
    pub passing_next : i < t.count → (b start' : ℕ) (best' : Option ℕ) → b ≡ gnu_bucket_of t i
        → start' ≡ cond (is_bucket b last) start i
        → best' ≡ cond (eqb (t.bucket b) start') best (lesser best (Some b)) → Passing best' start' (Some b) (i + 1)
    passing_next more b start' best' mine begun chosen =
        let begins : start' ≡ run_start t (i - t.base) =
        begun ∙ ap (λ b. cond (is_bucket b last) start i) mine ∙ start_is start last i so_far.behind in
        let held : eqb (t.bucket b) start'
        ≡ eqb (t.bucket (gnu_bucket_of t i)) (run_start t (i - t.base)) = rw (mine, begins) in
        let best-is : best' ≡ lesser best (cond (misplaced t i) (Some (gnu_bucket_of t i)) None) =
        chosen ∙ rw (held, mine) (picked (eqb (t.bucket (gnu_bucket_of t i)) (run_start t (i - t.base)))) in
        let low = so_far.low in
        let back : i + 1 - 1 ≡ i = omega arith in
        record {
          low = omega arith;
          behind = inr (omega arith, rw back (ap (λ x. Some x) mine), rw back begins);
          least = rw best-is
              (lesser_assoc best (cond (misplaced t i) (Some (gnu_bucket_of t i)) None) (least_from (i + 1))
              ∙ ap (lesser best) (sym (least_step i more)) ∙ so_far.least);
        }
      where
        picked : (right : Bool) → cond right best (lesser best (Some (gnu_bucket_of t i)))
            ≡ lesser best (cond (not right) (Some (gnu_bucket_of t i)) None)
        picked true = sym (lesser_none best)
        picked false = refl

    pub passing_end : t.count ≤ i → best ≡ least_from t.base
    unfolding least_misplaced
    passing_end past =
        let none_left : t.count - i ≡ 0 = omega arith in
        let nothing : least_from i ≡ None = rw none_left in
        sym (lesser_none best) ∙ ap (lesser best) (sym nothing) ∙ so_far.least
