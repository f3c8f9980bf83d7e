-- Where G9 holds, a bucket's symbols are one run, so its last symbol is the last of the run, and the longest chain is the
-- longest run.
--     last_of_run_lem                 G10 may look at the next symbol alone
--     longest_run, longest_run_lem    the longest run, or 0, is the longest chain
-- Assumes nothing.
use Rattle.std.proofs.Common.{◌≡◌, refl, sym, ap, ◌∙◌, true, ◌&&◌, List, [], ◌∷◌, map, ℕ, suc, ◌+◌, ◌-◌, ◌≤◌, ◌<◌, arith, mod-lt, le_antisymm, ltb, length, eqb-true, eq-eqb, ltb-true, ltb-false, lt-ltb}
use Rattle.lookup.specs.Pick.{from, largest}
use Rattle.gnu_table.specs.Table.{GnuTable, hashed}
use Rattle.gnu_rules.specs.Rules.{gnu_hash_at, gnu_bucket_of, in_bucket, members, is_last, holds, longest, bucket_right}
use Rattle.gnu_check_buckets.specs.Runs.{run_start}
use Rattle.gnu_check_ends.specs.Ends.{last_of_run}
use Rattle.lookup.proofs.Picking.{all_from, length_from, largest-le, largest_upper, by-test, and_left, and_right}
use Rattle.gnu_rules.proofs.Members.{holds_run, no_member, inside, outside, last, not_last}
use Rattle.gnu_check.proofs.Starts.{kept_right}

-- in a run of a bucket's symbols, the bucket's last symbol is the last of the run
in_run : (t : GnuTable) (b v k : ℕ) → members t b ≡ from v (suc k) → (i : ℕ) → v ≤ i → i < v + suc k
    → is_last t i ≡ last_of_run t i
in_run t b v k run i lo hi =
    let here = eqb-true (gnu_bucket_of t i) b (inside t b v k run i lo hi).1 in
    by-test (ltb i (v + k))
    (λ e. let less = ltb-true i (v + k) e in
    let next = inside t b v k run (suc i) (omega arith) (omega arith) in
    not_last t b v k run i lo less
    ∙ sym (rw (
      lt-ltb (suc i) t.count next.0.1,
      eq-eqb (gnu_bucket_of t (suc i)) (gnu_bucket_of t i) (eqb-true (gnu_bucket_of t (suc i)) b next.1 ∙ sym here),
    )))
    (λ e. let more = ltb-false i (v + k) e in
    let z : i ≡ v + k = omega arith in
    let in_range_lem = (inside t b v k run i lo hi).0 in
    (ap (is_last t) z ∙ last t b v k run)
    ∙ by-test (ltb (suc i) t.count && in_bucket t (gnu_bucket_of t i) (suc i))
    (λ both.
    let o = outside t b v k run (suc i) (omega arith)
    (ltb-true _ _ (and_left (ltb (suc i) t.count) (in_bucket t (gnu_bucket_of t i) (suc i)) both))
    (eq-eqb _ _ (eqb-true (gnu_bucket_of t (suc i)) (gnu_bucket_of t i)
    (and_right (ltb (suc i) t.count) (in_bucket t (gnu_bucket_of t i) (suc i)) both) ∙ here)) in
    absurd (omega arith))
    (λ none-next. rw none-next))

abbrev pub longest_run : GnuTable → ℕ
longest_run t = largest (map (λ i. suc i - run_start t (i - t.base)) (hashed t))

module _ (t : GnuTable) (some-bucket : 1 ≤ t.bucket_count) (kept : (b : ℕ) → b < t.bucket_count → bucket_right t b ≡ true) where
  -- the run of a bucket that a hashed symbol is in
  run_of : (b i : ℕ) → t.base ≤ i → i < t.count → gnu_bucket_of t i ≡ b → bucket_right t b ≡ true
      → (k : ℕ) × (members t b ≡ from (t.bucket b) (suc k))
  run_of b i lo hi mine h = go (members t b) refl h
    where
      go : (ms : List ℕ) → members t b ≡ ms → holds (t.bucket b) ms ≡ true
          → (k : ℕ) × (members t b ≡ from (t.bucket b) (suc k))
      go [] e h = absurd (no_member t b e i lo hi (eq-eqb _ _ mine))
      go (m ∷ ms) e h = (length ms, e ∙ holds_run (t.bucket b) m ms h)

  bucket_in : (i : ℕ) → gnu_bucket_of t i < t.bucket_count
  bucket_in i = mod-lt (gnu_hash_at t i) some-bucket

  pub last_of_run_lem : (i : ℕ) → t.base ≤ i → i < t.count → is_last t i ≡ last_of_run t i
  last_of_run_lem i lo hi =
      let r = run_of (gnu_bucket_of t i) i lo hi refl (kept (gnu_bucket_of t i) (bucket_in i)) in
      let o = outside t (gnu_bucket_of t i) (t.bucket (gnu_bucket_of t i)) r.0 r.1 i lo hi
      (eq-eqb (gnu_bucket_of t i) (gnu_bucket_of t i) refl) in
      in_run t (gnu_bucket_of t i) (t.bucket (gnu_bucket_of t i)) r.0 r.1 i o.0 o.1

  -- a run of a bucket's symbols starts at the bucket's value
  run_from : (i : ℕ) → t.base ≤ i → i < t.count → t.bucket (gnu_bucket_of t i) ≡ run_start t (i - t.base)
  run_from i lo hi = (kept_right t (gnu_bucket_of t i) (kept (gnu_bucket_of t i) (bucket_in i))).placed i lo hi refl

  pub longest_run_lem : longest_run t ≡ longest t
  unfolding longest
  longest_run_lem =
      le_antisymm
      (largest_upper (λ i. suc i - run_start t (i - t.base)) (longest t) (hashed t)
      (all_from (λ i. suc i - run_start t (i - t.base) ≤ longest t) t.base (t.count - t.base)
      (λ i lo hi.
      let b = gnu_bucket_of t i in
      let v = t.bucket b in
      let r = run_of b i lo (omega arith) refl (kept b (bucket_in i)) in
      let o = outside t b v r.0 r.1 i lo (omega arith) (eq-eqb (gnu_bucket_of t i) b refl) in
      let size : length (members t b) ≡ suc r.0 = ap length r.1 ∙ length_from v (suc r.0) in
      let start = run_from i lo (omega arith) in
      let most = largest-le (λ x. length (members t x)) 0 t.bucket_count b (omega arith) (omega (arith, bucket_in i)) in
      omega arith)))
      (largest_upper (λ b. length (members t b)) (longest_run t) (from 0 t.bucket_count)
      (all_from (λ b. length (members t b) ≤ longest_run t) 0 t.bucket_count
      (λ b lo hi. bucket_most b (kept b (omega arith)))))
    where
      bucket_most : (b : ℕ) → bucket_right t b ≡ true → length (members t b) ≤ longest_run t
      bucket_most b h = go (members t b) refl h
        where
          go : (ms : List ℕ) → members t b ≡ ms → holds (t.bucket b) ms ≡ true → length (members t b) ≤ longest_run t
          go [] e h = rw e (omega arith)
          go (m ∷ ms) e h =
              let v = t.bucket b in
              let k = length ms in
              let run = e ∙ holds_run v m ms h in
              let end = inside t b v k run (v + k) (omega arith) (omega arith) in
              let size : length (members t b) ≡ suc k = ap length run ∙ length_from v (suc k) in
              let start : t.bucket b ≡ run_start t (v + k - t.base) =
              sym (ap t.bucket (eqb-true (gnu_bucket_of t (v + k)) b end.1)) ∙ run_from (v + k) end.0.0 end.0.1 in
              let most = largest-le (λ i. suc i - run_start t (i - t.base)) t.base (t.count - t.base) (v + k)
              end.0.0 (omega arith) in
              omega arith
