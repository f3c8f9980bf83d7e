-- After G7, the value of a symbol rules out no bucket that the symbol is in: `stray` is then `plain_stray`.
-- Assumes nothing.
use Rattle.std.proofs.Common.{ℕ, ◌+◌, ◌*◌, ◌/◌, ◌%◌, ◌≤◌, ◌<◌, ◌≡◌, sym, ap, ◌∙◌, true, false, not, ◌&&◌, true≢false, arith, leb, ltb, eqb, leb-true, ltb-true, eqb-true, eq-eqb}
use mathlib.Core.Bool.{or-true, and-false}
use borrow.Author.Tests.{eqb-false}
use Rattle.lookup.proofs.Picking.{by-test, and_left, and_right}
use Rattle.gnu_table.specs.Table.{GnuTable, value_of}
use Rattle.gnu_rules.specs.Rules.{gnu_hash_at, gnu_bucket_of, in_bucket, value_is_hash}
use Rattle.gnu_check_buckets.specs.Runs.{may_be, begins, stray}
use Rattle.gnu_check.proofs.Starts.{plain_begins, plain_stray}

-- a symbol whose value rules a bucket out is of another
may_not : (t : GnuTable) (b v : ℕ) → value_is_hash t v ≡ true → may_be (value_of t v) t.bucket_count b ≡ false
    → ¬ (gnu_bucket_of t v ≡ b)
may_not t b v right ruled_out mine =
    let half = eqb-true (value_of t v / 2) (gnu_hash_at t v / 2) right in
    by-test (eqb (gnu_hash_at t v % 2) 0)
    (λ e. let even = eqb-true (gnu_hash_at t v % 2) 0 e in
    let z : gnu_hash_at t v ≡ value_of t v / 2 * 2 = omega arith in
    let yes : eqb (value_of t v / 2 * 2 % t.bucket_count) b ≡ true =
    eq-eqb (value_of t v / 2 * 2 % t.bucket_count) b (ap (λ h. h % t.bucket_count) (sym z) ∙ mine) in
    true≢false (rw yes at ruled_out))
    (λ e. let odd = eqb-false (gnu_hash_at t v % 2) 0 e in
    let z : gnu_hash_at t v ≡ value_of t v / 2 * 2 + 1 = omega arith in
    let yes : eqb ((value_of t v / 2 * 2 + 1) % t.bucket_count) b ≡ true =
    eq-eqb ((value_of t v / 2 * 2 + 1) % t.bucket_count) b (ap (λ h. h % t.bucket_count) (sym z) ∙ mine) in
    true≢false (rw (yes, or-true) at ruled_out))

module _ (t : GnuTable) (right : (i : ℕ) → t.base ≤ i → i < t.count → value_is_hash t i ≡ true) where
  begins_plain : (b v : ℕ) → begins t b v ≡ plain_begins t b v
  begins_plain b v =
      by-test (leb t.base v && ltb v t.count)
      (λ within. by-test (in_bucket t b v)
      (λ mine. by-test (may_be (value_of t v) t.bucket_count b) (λ may. rw may)
      (λ out. absurd (may_not t b v (right v (leb-true _ _ (and_left (leb t.base v) (ltb v t.count) within))
      (ltb-true _ _ (and_right (leb t.base v) (ltb v t.count) within))) out (eqb-true _ _ mine))))
      (λ other. rw (other, and-false)))
      (λ outside. rw outside)

  pub stray_plain : (b : ℕ) → stray t b ≡ plain_stray t b
  unfolding stray plain_stray
  stray_plain b = ap (λ begun. not (eqb (t.bucket b) 0) && not begun) (begins_plain b (t.bucket b))
