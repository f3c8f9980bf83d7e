-- Both passes together find the lowest bucket that breaks G9: a bucket breaks it exactly if it is stray or has a misplaced
-- symbol.
--     Amiss              a misplaced symbol of a bucket
--     least_wrong_lem    after G7, `least_wrong` is the lowest bucket that breaks G9
-- Assumes nothing.
use Rattle.std.proofs.Common.{◌≡◌, refl, sym, ap, ◌∙◌, subst, Bool, true, false, not, cond, ◌&&◌, true≢false, ◌⊎◌, inl, inr, ⊎_elim, Option, Some, None, ℕ, zero, suc, ◌+◌, ◌-◌, ◌≤◌, ◌<◌, arith, le_refl, mod-lt, eq-or-lt_of_le, eqb-true, eq-eqb}
use mathlib.Core.Bool.{false≢true}
use Rattle.std.proofs.Math.Option as Math
use native.Mathlib.Nat.{sub-zero}
use Rattle.lookup.specs.Search.{answered, first_from}
use borrow.Author.Tests.{not-true}
use Rattle.lookup.specs.Pick.{from, first_of}
use Rattle.gnu_table.specs.Table.{GnuTable, hashed}
use Rattle.gnu_rules.specs.Rules.{gnu_hash_at, gnu_bucket_of, in_bucket, value_is_hash, lowest, bucket_right}
use Rattle.gnu_check_buckets.specs.Runs.{lesser, misplaced, stray, least_misplaced, least_wrong}
use Rattle.lookup.proofs.Picking.{all_from, from_all, first_of_cong, none_first_of, first_of_lowest, by-test, and_left, and_right, not_none}
use Rattle.gnu_check.proofs.Least.{Least, least_unique, least_map, lesser_least, first_of_least}
use Rattle.gnu_check.proofs.Ruled.{stray_plain}
use Rattle.gnu_check.proofs.Starts.{Right, plain_stray, right_kept, kept_right}

-- one number, where a test passes
one : (b : Bool) (x : ℕ) → Least (λ c. (b ≡ true) × (x ≡ c)) (cond b (Some x) None)
one true x = ((refl, refl), λ c less h. absurd (omega (arith, h.1)))
one false x = λ c h. false≢true h.0

module _ (t : GnuTable) where
  -- a misplaced symbol of bucket c, from i up to e
  abbrev pub Amiss : ℕ → ℕ → ℕ → Type 0
  Amiss i e c = (j : ℕ) × (i ≤ j) × (j < e) × (misplaced t j ≡ true) × (gnu_bucket_of t j ≡ c)

  least_misplaced_lem : (i k : ℕ) → Least (Amiss i (i + k)) (least_misplaced t i k)
  unfolding least_misplaced
  least_misplaced_lem i zero = λ c h. absurd (omega arith)
  least_misplaced_lem i (suc k) =
      least_map (λ c. ((misplaced t i ≡ true) × (gnu_bucket_of t i ≡ c)) ⊎ Amiss (suc i) (suc i + k) c) (Amiss i (i + suc k))
      (λ c. ⊎_elim (λ h. (i, le_refl i, omega arith, h.0, h.1)) (λ h. (h.0, omega arith, omega arith, h.3, h.4)))
      (λ c h. ⊎_elim (λ z. inl (subst (λ x. (misplaced t x ≡ true) × (gnu_bucket_of t x ≡ c)) (sym z) (h.3, h.4)))
      (λ more. inr (h.0, more, omega arith, h.3, h.4)) (eq-or-lt_of_le h.1))
      (least_misplaced t i (suc k))
      (lesser_least (λ c. (misplaced t i ≡ true) × (gnu_bucket_of t i ≡ c)) (Amiss (suc i) (suc i + k))
      (cond (misplaced t i) (Some (gnu_bucket_of t i)) None) (least_misplaced t (suc i) k)
      (one (misplaced t i) (gnu_bucket_of t i)) (least_misplaced_lem (suc i) k))

  -- a bucket breaks G9 exactly if it is stray or has a misplaced symbol
  broken : (c : ℕ) → (plain_stray t c ≡ true) ⊎ Amiss t.base (t.base + (t.count - t.base)) c → bucket_right t c ≡ false
  broken c h =
      by-test (bucket_right t c)
      (λ e. let r = kept_right t c e in
      absurd (⊎_elim (λ s. true≢false (sym s ∙ r.own))
      (λ m. false≢true (rw (
        ap t.bucket m.4,
        eq-eqb _ _ (r.placed m.0 m.1 (omega arith) m.4),
      ) at m.3)) h))
      (λ e. e)

  why : (c : ℕ) → bucket_right t c ≡ false → (plain_stray t c ≡ true) ⊎ Amiss t.base (t.base + (t.count - t.base)) c
  why c h = by-test (plain_stray t c) inl (λ s. go s (first_of amiss (hashed t)) refl)
    where
      amiss : ℕ → Bool
      amiss j = in_bucket t c j && misplaced t j

      go : plain_stray t c ≡ false → (o : Math.Option ℕ) → first_of amiss (hashed t) ≡ o
          → (plain_stray t c ≡ true) ⊎ Amiss t.base (t.base + (t.count - t.base)) c
      go s Math.none e =
          let none-amiss = from_all (λ j. amiss j ≡ false) t.base (t.count - t.base)
          (none_first_of amiss (hashed t) e) in
          let right : Right t c =
          record {
            own = s;
            placed = λ i lo hi mine.
                let placed : misplaced t i ≡ false = rw (eq-eqb _ _ mine) at (none-amiss i lo (omega arith)) in
                sym (ap t.bucket mine) ∙ eqb-true _ _ (not_none _ placed);
          } in
          absurd (true≢false (sym (right_kept t c right) ∙ h))
      go s (Math.some j) e =
          let l = first_of_lowest amiss t.base (t.count - t.base) j e in
          inr (
            j,
            l.low,
            l.high,
            and_right (in_bucket t c j) (misplaced t j) l.passes,
            eqb-true _ _ (and_left (in_bucket t c j) (misplaced t j) l.passes),
          )

  abbrev plain_wrong : Option ℕ
  plain_wrong = lesser (answered (first_of (plain_stray t) (from 0 t.bucket_count))) (least_misplaced t t.base (t.count - t.base))

  plain_wrong_lem : 1 ≤ t.bucket_count → plain_wrong ≡ answered (lowest (bucket_right t) (from 0 t.bucket_count))
  plain_wrong_lem some-bucket =
      least_unique Breaks plain_wrong (answered (lowest (bucket_right t) (from 0 t.bucket_count)))
      (least_map (λ c. ((c < t.bucket_count) × (plain_stray t c ≡ true)) ⊎ Amiss t.base
      (t.base + (t.count - t.base)) c) Breaks
      (λ c. ⊎_elim (λ h. (h.0, ap not (broken c (inl h.1))))
      (λ h. (subst (λ x. x < t.bucket_count) h.4 (mod-lt (gnu_hash_at t h.0) some-bucket), ap not (broken c (inr h)))))
      (λ c h. ⊎_elim (λ s. inl (h.0, s)) inr (why c (not-true (bucket_right t c) h.1)))
      plain_wrong
      (lesser_least (λ c. (c < t.bucket_count) × (plain_stray t c ≡ true)) (Amiss t.base (t.base + (t.count - t.base)))
      (answered (first_of (plain_stray t) (from 0 t.bucket_count))) (least_misplaced t t.base (t.count - t.base))
      (first_of_least (plain_stray t) t.bucket_count) (least_misplaced_lem t.base (t.count - t.base))))
      (first_of_least (λ b. not (bucket_right t b)) t.bucket_count)
    where
      Breaks : ℕ → Type 0
      Breaks c = (c < t.bucket_count) × (not (bucket_right t c) ≡ true)

  pub least_wrong_lem : 1 ≤ t.bucket_count → ((i : ℕ) → t.base ≤ i → i < t.count → value_is_hash t i ≡ true)
      → least_wrong t ≡ answered (lowest (bucket_right t) (from 0 t.bucket_count))
  unfolding first_from
  least_wrong_lem some-bucket right =
      rw (sub-zero t.bucket_count)
      (ap (λ o. lesser (answered o) (least_misplaced t t.base (t.count - t.base)))
      (first_of_cong (stray t) (plain_stray t) (from 0 t.bucket_count)
      (all_from _ 0 t.bucket_count (λ b lo hi. stray_plain t right b)))
      ∙ plain_wrong_lem some-bucket)
