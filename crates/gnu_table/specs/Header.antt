-- The header of a GNU table, and where its parts stand in its bytes (01, "Layouts" and "Lookups"): header, bloom words,
-- buckets, values to the end.
--     word_size                the bytes of a bloom word
--     buckets_at, values_at    where the buckets start, and the values
--     layout_of                the header's numbers and the places
--     gnu_fault                refusal 26, 27 or 28, where the header, the bloom words or the buckets are not whole
--     gnu_header               of the bytes: part too long (1), the places (26 to 28), then the layout
-- Assumes nothing.
use Rattle.std.specs.Prelude.{ℕ, ◌+◌, ◌-◌, ◌*◌, ◌/◌, cond, List, ltb, length, Result, Ok, Err}
use Rattle.std.proofs.Math.Option.{Option, some, none}
use Rattle.endian.specs.declared.kinds.Class.{Class}
use Rattle.endian.specs.declared.kinds.Class.TheVariants.{Elf32, Elf64}
use Rattle.endian.specs.declared.kinds.Order.{Order}
use Rattle.endian.specs.declared.refusals.Refusal.{Refusal}
use Rattle.endian.specs.Refusals.{limit, too_long, unless_refused, bad_gnu_header, bad_gnu_bloom, bad_gnu_buckets}
use Rattle.endian.specs.Word.{word_at}
use Rattle.gnu_table.specs.declared.header.Layout.{Layout}

abbrev pub word_size : Class → ℕ
word_size Elf32 = 4
word_size Elf64 = 8

module _ (class : Class) (order : Order) (table : List ℕ) where
  -- after the 16 bytes of the header and bloom_count words
  abbrev pub buckets_at : ℕ
  buckets_at = 16 + word_at order 4 table 8 * word_size class

  -- after bucket_count buckets
  abbrev pub values_at : ℕ
  values_at = buckets_at + word_at order 4 table 0 * 4

  abbrev pub layout_of : Layout
  layout_of = record {
    bucket_count = word_at order 4 table 0;
    symbol_base = word_at order 4 table 4;
    bloom_count = word_at order 4 table 8;
    bloom_shift = word_at order 4 table 12;
    buckets_at = buckets_at;
    values_at = values_at;
    value_count = (length table - values_at) / 4;
  }

  abbrev pub gnu_fault : Option Refusal
  gnu_fault =
      cond (ltb (length table) 16) (some bad_gnu_header)
      (cond (ltb (length table) buckets_at) (some bad_gnu_bloom)
      (cond (ltb (length table) values_at) (some bad_gnu_buckets) none))

  unfoldable pub gnu_header : Result Layout Refusal
  gnu_header = cond (ltb limit (length table)) (Err too_long) (unless_refused Err gnu_fault (Ok layout_of))
