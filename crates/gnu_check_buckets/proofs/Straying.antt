-- Whether a bucket is stray, a law for each answer, under the tests before it. Assumes nothing.
--     stray_zero, stray_below, stray_past, stray_ruled_out, stray_other, stray_first, stray_before    what `stray` is
use Rattle.std.proofs.Common.{ℕ, ◌-◌, ◌≤◌, ◌<◌, ◌≡◌, refl, Bool, true, false, not, eqb, eq-eqb, ne_eqb, le-leb, lt-ltb, le-ltb}
use borrow.Author.Tests.{lt-leb}
use Rattle.gnu_table.specs.Table.{GnuTable, value_of}
use Rattle.gnu_rules.specs.Rules.{gnu_bucket_of}
use Rattle.gnu_check_buckets.specs.Runs.{may_be, stray}

-- the double negation of a test
not_twice : (b : Bool) → not (not b) ≡ b
not_twice true = refl
not_twice false = refl

module _ (t : GnuTable) (b v : ℕ) (held : t.bucket b ≡ v) where
  pub stray_zero : v ≡ 0 → stray t b ≡ false
  unfolding stray
  stray_zero empty = rw (held, eq-eqb v 0 empty)

  module _ (some : ¬ (v ≡ 0)) where
    pub stray_below : v < t.base → stray t b ≡ true
    unfolding stray
    stray_below low = rw (held, ne_eqb v 0 some, lt-leb t.base v low)

    module _ (low : t.base ≤ v) where
      pub stray_past : t.count ≤ v → stray t b ≡ true
      unfolding stray
      stray_past past = rw (held, ne_eqb v 0 some, le-leb t.base v low, le-ltb v t.count past)

      module _ (high : v < t.count) where
        pub stray_ruled_out : may_be (value_of t v) t.bucket_count b ≡ false → stray t b ≡ true
        unfolding stray
        stray_ruled_out out = rw (held, ne_eqb v 0 some, le-leb t.base v low, lt-ltb v t.count high, out)

        module _ (may : may_be (value_of t v) t.bucket_count b ≡ true) where
          pub stray_other : ¬ (gnu_bucket_of t v ≡ b) → stray t b ≡ true
          unfolding stray
          stray_other other =
              rw (
                held,
                ne_eqb v 0 some,
                le-leb t.base v low,
                lt-ltb v t.count high,
                may,
                ne_eqb (gnu_bucket_of t v) b other,
              )

          module _ (mine : gnu_bucket_of t v ≡ b) where
            pub stray_first : v ≡ t.base → stray t b ≡ false
            unfolding stray
            stray_first first =
                rw (
                  held,
                  ne_eqb v 0 some,
                  le-leb t.base v low,
                  lt-ltb v t.count high,
                  may,
                  eq-eqb (gnu_bucket_of t v) b mine,
                  eq-eqb v t.base first,
                )

            pub stray_before : ¬ (v ≡ t.base) → stray t b ≡ eqb (gnu_bucket_of t (v - 1)) b
            unfolding stray
            stray_before later =
                rw (
                  held,
                  ne_eqb v 0 some,
                  le-leb t.base v low,
                  lt-ltb v t.count high,
                  may,
                  eq-eqb (gnu_bucket_of t v) b mine,
                  ne_eqb v t.base later,
                )
                (not_twice (eqb (gnu_bucket_of t (v - 1)) b))
