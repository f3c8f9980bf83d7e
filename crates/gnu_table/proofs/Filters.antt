-- What the bloom filter says of a hash, a law for each answer, under the tests before it.
--     filter_none, _first, _shift, _is    what `bloom_filter` is
-- Assumes nothing.
use Rattle.std.proofs.Common.{ℕ, ◌≤◌, ◌<◌, ◌≡◌, refl, Bool, true, false, cond, not, eq-eqb, ne_eqb, lt-ltb, le-ltb, Result, Ok, Err}
use Rattle.endian.specs.declared.refusals.Refusal.{Refusal}
use Rattle.endian.specs.Refusals.{bad_bloom_shift}
use Rattle.gnu_table.specs.Table.{GnuTable, bloom_first, bloom_second, bloom_filter}

module _ (t : GnuTable) (h : ℕ) where
  pub filter_none : t.bloom_count ≡ 0 → bloom_filter t h ≡ Ok false
  unfolding bloom_filter
  filter_none e = rw (eq-eqb _ _ e)

  module _ (blooms : t.bloom_count ≡ 0 → ⊥) where
    pub filter_first : bloom_first t h ≡ false → bloom_filter t h ≡ Ok false
    unfolding bloom_filter
    filter_first unset = rw (ne_eqb _ _ blooms, unset)

    module _ (one : bloom_first t h ≡ true) where
      pub filter_shift : 31 < t.shift → bloom_filter t h ≡ Err bad_bloom_shift
      unfolding bloom_filter
      filter_shift more = rw (ne_eqb _ _ blooms, one, lt-ltb 31 t.shift more)

      pub filter_is : t.shift ≤ 31 → bloom_filter t h ≡ Ok (bloom_second t h)
      unfolding bloom_filter
      filter_is small = rw (ne_eqb _ _ blooms, one, le-ltb 31 t.shift small) (of_bit (bloom_second t h))
        where
          of_bit : (b : Bool) → cond {A = Result Bool Refusal} (not b) (Ok false) (Ok true) ≡ Ok b
          of_bit true = refl
          of_bit false = refl
