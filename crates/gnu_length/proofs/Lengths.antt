-- The length of the symbol table, step by step.
--     highest_step                                            the highest bucket value, from a bucket on
--     chain_on                                                the first symbol whose value has low bit 1, from a symbol on
--     length_base, length_buckets, length_below, length_is    the length, a law for each answer
--     length_by, length_by_lem                                the length, by the header
-- Assumes nothing.
use Rattle.std.specs.Prelude.{Option as Answer}
use Rattle.std.proofs.Math.Option.{Option, some, none}
use Rattle.std.proofs.Common.{refl, arith, ℕ, ◌+◌, ◌-◌, ◌≤◌, ◌<◌, max, ◌≡◌, Bool, true, false, cond, List, map, ltb, length, Result, Ok, Err, eq-eqb, ne_eqb, lt-ltb, le-ltb}
use Rattle.endian.specs.declared.kinds.Class.{Class}
use Rattle.endian.specs.declared.kinds.Order.{Order}
use Rattle.endian.specs.declared.refusals.Refusal.{Refusal}
use Rattle.endian.specs.Refusals.{limit, too_long, unless_refused}
use Rattle.lookup.specs.Pick.{from, first_of, largest}
use Rattle.lookup.proofs.Picking.{from_cons}
use Rattle.gnu_table.specs.declared.header.Layout.{Layout}
use Rattle.gnu_table.specs.Table.{GnuTable, odd, value_of}
use Rattle.gnu_table.specs.Header.{gnu_fault, layout_of, gnu_header}
use Rattle.gnu_table.specs.Places.{table_at}
use Rattle.gnu_length.specs.Length.{highest_bucket, number_after, length_of, length_answer, gnu_length}

module _ (f : ℕ → ℕ) where
  pub highest_step : (most b e : ℕ) → b < e
      → max most (largest (map f (from b (e - b)))) ≡ max (max most (f b)) (largest (map f (from (b + 1) (e - (b + 1)))))
  highest_step most b e more = rw (from_cons b e more) (omega arith)

module _ (p : ℕ → Bool) (i e : ℕ) where
  pub chain_on : i < e → p i ≡ false → first_of p (from i (e - i)) ≡ first_of p (from (i + 1) (e - (i + 1)))
  chain_on more miss = rw (from_cons i e more, miss)

module _ (t : GnuTable) where
  pub length_base : t.base ≡ 0 → length_of t ≡ none
  unfolding length_of
  length_base e = rw (eq-eqb t.base 0 e)

  module _ (based : t.base ≡ 0 → ⊥) where
    pub length_buckets : t.bucket_count ≡ 0 → length_of t ≡ none
    unfolding length_of
    length_buckets e = rw (ne_eqb t.base 0 based, eq-eqb t.bucket_count 0 e)

    module _ (buckets : t.bucket_count ≡ 0 → ⊥) where
      pub length_below : highest_bucket t < t.base → length_of t ≡ none
      unfolding length_of
      length_below less = rw (ne_eqb t.base 0 based, ne_eqb t.bucket_count 0 buckets, lt-ltb (highest_bucket t) t.base less)

      pub length_is : t.base ≤ highest_bucket t
          → length_of t ≡ number_after (first_of (λ i. odd (value_of t i)) (from (highest_bucket t) (t.value_count - (highest_bucket t - t.base))))
      unfolding length_of
      length_is more = rw (ne_eqb t.base 0 based, ne_eqb t.bucket_count 0 buckets, le-ltb (highest_bucket t) t.base more)

abbrev pub length_by : Result Layout Refusal → (Layout → Option ℕ) → Result (Answer ℕ) Refusal
length_by (Err r) measure = Err r
length_by (Ok layout) measure = Ok (length_answer (measure layout))

by_header : (long : Bool) (o : Option Refusal) (layout : Layout) (measure : Layout → Option ℕ)
    → cond long (Err too_long) (unless_refused Err o (Ok (length_answer (measure layout))))
    ≡ length_by (cond long (Err too_long) (unless_refused Err o (Ok layout))) measure
by_header true o layout measure = refl
by_header false none layout measure = refl
by_header false (some r) layout measure = refl

pub length_by_lem : (class : Class) (order : Order) (table : List ℕ)
    → gnu_length class order table
    ≡ length_by (gnu_header class order table) (λ layout. length_of (table_at class order table layout 0))
unfolding gnu_length gnu_header length_of
length_by_lem class order table =
    by_header (ltb limit (length table)) (gnu_fault class order table) (layout_of class order table)
    (λ layout. length_of (table_at class order table layout 0))
