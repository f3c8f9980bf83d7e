-- The table of the bytes, over its symbols (01, "Layouts").
--     table_with      the table that a layout says, over its symbols and so many of them
--     gnu_table_of    the table that the header's layout says
-- Assumes nothing.
use Rattle.std.specs.Prelude.{ℕ, ◌+◌, ◌*◌, List}
use Rattle.endian.specs.declared.kinds.Class.{Class}
use Rattle.endian.specs.declared.kinds.Order.{Order}
use Rattle.endian.specs.Word.{word_at}
use Rattle.symbol.specs.Table.{symbols_in}
use Rattle.lookup.specs.Wanted.{name_of}
use Rattle.gnu_table.specs.declared.header.Layout.{Layout}
use Rattle.gnu_table.specs.Table.{GnuTable}
use Rattle.gnu_table.specs.Header.{word_size, layout_of}

abbrev pub table_with : Class → Order → (table symbols strings : List ℕ) → Layout → (count : ℕ) → GnuTable
table_with class order table symbols strings layout count = record {
  bucket_count = layout.bucket_count;
  base = layout.symbol_base;
  bloom_count = layout.bloom_count;
  shift = layout.bloom_shift;
  width = word_size class * 8;
  bloom = λ i. word_at order (word_size class) table (16 + i * word_size class);
  bucket = λ b. word_at order 4 table (layout.buckets_at + b * 4);
  value = λ i. word_at order 4 table (layout.values_at + i * 4);
  value_count = layout.value_count;
  count = count;
  name = name_of class order symbols strings;
}

abbrev pub gnu_table_of : Class → Order → (table symbols strings : List ℕ) → GnuTable
gnu_table_of class order table symbols strings =
    table_with class order table symbols strings (layout_of class order table) (symbols_in class symbols)
