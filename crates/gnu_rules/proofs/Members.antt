-- The symbols of a bucket. Assumes nothing.
--     holds_run, run_holds        what a bucket with symbols holds is the start of their run
--     all_members, members_all    what holds of each member, and of each hashed symbol of the bucket
--     no_member                   a bucket with no symbols has none
--     inside                      of symbols that are a run, v to v + k: each number of it is a hashed symbol of the bucket
--     outside                     each hashed symbol of the bucket is in it
--     last, not_last              its end is the bucket's last symbol, and no number before it is
use Rattle.std.proofs.Common.{ℕ, suc, ◌+◌, ◌-◌, ◌≤◌, ◌<◌, ◌≡◌, refl, ap, ◌∙◌, subst, true, false, List, [], ◌∷◌, arith, eqb, length, eqb-true, eq-eqb}
use mathlib.Core.Path.{subst⁻¹}
use Rattle.endian.specs.First.{same}
use Rattle.strings.proofs.Meaning.{same_refl, same_true}
use Rattle.lookup.specs.Pick.{from}
use Rattle.lookup.proofs.Picking.{All, all_from, from_all, all-select, select-all, first_of_none, first_of_hit, by-test, and_left, and_right}
use Rattle.gnu_table.specs.Table.{GnuTable, hashed}
use Rattle.gnu_rules.specs.Rules.{gnu_bucket_of, in_bucket, members, is_last, holds}

pub holds_run : (v m : ℕ) (ms : List ℕ) → holds v (m ∷ ms) ≡ true → m ∷ ms ≡ from v (suc (length ms))
holds_run v m ms h =
    let lowest = eqb-true v m (and_left (eqb v m) (same (m ∷ ms) (from m (suc (length ms)))) h) in
    let run = same_true (m ∷ ms) (from m (suc (length ms)))
    (and_right (eqb v m) (same (m ∷ ms) (from m (suc (length ms)))) h) in
    rw lowest run

pub run_holds : (v m : ℕ) (ms : List ℕ) → m ∷ ms ≡ from v (suc (length ms)) → holds v (m ∷ ms) ≡ true
run_holds v m ms run =
    let lowest : v ≡ m = cc in
    let whole : m ∷ ms ≡ from m (suc (length ms)) = run ∙ ap (λ x. from x (suc (length ms))) lowest in
    rw (eq-eqb v m lowest) (subst (λ l. same (m ∷ ms) l ≡ true) whole (same_refl (m ∷ ms)))

pub all_members : (t : GnuTable) (b : ℕ) → All (λ i. ((t.base ≤ i) × (i < t.count)) × (in_bucket t b i ≡ true)) (members t b)
all_members t b =
    all-select (in_bucket t b) (λ i. (t.base ≤ i) × (i < t.count)) (hashed t)
    (all_from _ t.base (t.count - t.base) (λ i lo hi. (lo, omega arith)))

pub members_all : (t : GnuTable) (b : ℕ) (P : ℕ → Type 0) → All P (members t b)
    → (i : ℕ) → t.base ≤ i → i < t.count → in_bucket t b i ≡ true → P i
members_all t b P h i lo hi =
    from_all (λ i. in_bucket t b i ≡ true → P i) t.base (t.count - t.base)
    (select-all (in_bucket t b) P (hashed t) h) i lo (omega arith)

pub no_member : (t : GnuTable) (b : ℕ) → members t b ≡ [] → (i : ℕ) → t.base ≤ i → i < t.count → in_bucket t b i ≡ true → ⊥
no_member t b e = members_all t b (λ i. ⊥) (subst⁻¹ (All _) e tt)

module _ (t : GnuTable) (b v k : ℕ) (run : members t b ≡ from v (suc k)) where
  pub inside : (i : ℕ) → v ≤ i → i < v + suc k → ((t.base ≤ i) × (i < t.count)) × (in_bucket t b i ≡ true)
  inside = from_all _ v (suc k) (subst (All _) run (all_members t b))

  pub outside : (i : ℕ) → t.base ≤ i → i < t.count → in_bucket t b i ≡ true → (v ≤ i) × (i < v + suc k)
  outside =
      members_all t b (λ i. (v ≤ i) × (i < v + suc k)) (subst⁻¹ (All _) run (all_from _ v (suc k) (λ i lo hi. (lo, hi))))

  pub last : is_last t (v + k) ≡ true
  unfolding is_last
  last =
      let end = inside (v + k) (omega arith) (omega arith) in
      let e = eqb-true (gnu_bucket_of t (v + k)) b end.1 in
      let none-later =
      all_from (λ i. in_bucket t b i ≡ false) (suc (v + k)) (t.count - suc (v + k))
      (λ i lo hi. by-test (in_bucket t b i) (λ h. let o = outside i (omega arith) (omega arith) h in absurd (omega arith))
      (λ h. h)) in
      rw (e, first_of_none (in_bucket t b) (from (suc (v + k)) (t.count - suc (v + k))) none-later) refl

  pub not_last : (i : ℕ) → v ≤ i → i < v + k → is_last t i ≡ false
  unfolding is_last
  not_last i lo hi =
      let e = eqb-true (gnu_bucket_of t i) b (inside i lo (omega arith)).1 in
      let next = inside (suc i) (omega arith) (omega arith) in
      rw (e, first_of_hit (in_bucket t b) (suc i) (t.count - suc i) (omega arith) next.1) refl
