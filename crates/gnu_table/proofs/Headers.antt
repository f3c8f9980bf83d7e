-- The header of a table, a law for each answer, under the tests before it. Assumes nothing.
--     header_long, header_short, header_bloom, header_buckets, header_is    what `gnu_header` is
use Rattle.std.proofs.Common.{ℕ, ◌-◌, ◌/◌, ◌≤◌, ◌<◌, ◌≡◌, sym, List, lt-ltb, le-ltb, length, Ok, Err}
use Rattle.endian.specs.declared.kinds.Class.{Class}
use Rattle.endian.specs.declared.kinds.Order.{Order}
use Rattle.endian.specs.Refusals.{limit, too_long, bad_gnu_header, bad_gnu_bloom, bad_gnu_buckets}
use Rattle.endian.specs.Word.{word_at}
use Rattle.gnu_table.specs.Header.{buckets_at, values_at, layout_of, gnu_header}

module _ (class : Class) (order : Order) (table : List ℕ) where
  pub header_long : limit < length table → gnu_header class order table ≡ Err too_long
  unfolding gnu_header
  header_long long = rw (lt-ltb _ _ long)

  module _ (short : length table ≤ limit) where
    pub header_short : length table < 16 → gnu_header class order table ≡ Err bad_gnu_header
    unfolding gnu_header
    header_short less = rw (le-ltb _ _ short, lt-ltb _ _ less)

    module _ (whole : 16 ≤ length table) where
      pub header_bloom : length table < buckets_at class order table → gnu_header class order table ≡ Err bad_gnu_bloom
      unfolding gnu_header
      header_bloom less = rw (le-ltb _ _ short, le-ltb _ _ whole, lt-ltb _ _ less)

      module _ (blooms : buckets_at class order table ≤ length table) where
        pub header_buckets : length table < values_at class order table → gnu_header class order table ≡ Err bad_gnu_buckets
        unfolding gnu_header
        header_buckets less = rw (le-ltb _ _ short, le-ltb _ _ whole, le-ltb _ _ blooms, lt-ltb _ _ less)

        header_at : values_at class order table ≤ length table → gnu_header class order table ≡ Ok (layout_of class order table)
        unfolding gnu_header
        header_at buckets = rw (le-ltb _ _ short, le-ltb _ _ whole, le-ltb _ _ blooms, le-ltb _ _ buckets)

        module _ (buckets : values_at class order table ≤ length table) where
          -- the same, of numbers that are those of the layout
          pub header_is : {bucket_count base bloom_count shift buckets-at values-at : ℕ}
              → bucket_count ≡ word_at order 4 table 0 → base ≡ word_at order 4 table 4
              → bloom_count ≡ word_at order 4 table 8 → shift ≡ word_at order 4 table 12
              → buckets-at ≡ buckets_at class order table → values-at ≡ values_at class order table
              → Ok (record {
                bucket_count = bucket_count;
                symbol_base = base;
                bloom_count = bloom_count;
                bloom_shift = shift;
                buckets_at = buckets-at;
                values_at = values-at;
                value_count = (length table - values-at) / 4;
              })
              ≡ gnu_header class order table
          header_is first second third fourth fifth sixth =
              rw (first, second, third, fourth, fifth, sixth) (sym (header_at buckets))
