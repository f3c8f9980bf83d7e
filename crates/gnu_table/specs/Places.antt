-- Need not be believed: parts of a table, by places in its bytes. Contracts of inner functions cite them, and proofs show that
-- they are the table's.
--     table_at         the table that a layout says, without symbols; a lookup asks for no names of it
--     bloom_word_at    the bloom word of a hash
--     value_at         the value that belongs to a symbol
--     pair_ends        whether a symbol's pair ends the chain
-- Assumes nothing.
use Rattle.std.specs.Prelude.{ℕ, ◌+◌, ◌-◌, ◌*◌, ◌/◌, Bool, List, []}
use Rattle.std.specs.Int.Bits.{bit_and}
use Rattle.endian.specs.declared.kinds.Class.{Class}
use Rattle.endian.specs.declared.kinds.Order.{Order}
use Rattle.endian.specs.Word.{word_at}
use Rattle.gnu_table.specs.declared.header.Layout.{Layout}
use Rattle.gnu_table.specs.Table.{GnuTable, odd}
use Rattle.gnu_table.specs.Header.{word_size}
use Rattle.gnu_table.specs.Layout.{table_with}

abbrev pub table_at : Class → Order → (table : List ℕ) → Layout → (count : ℕ) → GnuTable
table_at class order table layout count = table_with class order table [] [] layout count

abbrev pub bloom_word_at : Class → Order → (table : List ℕ) → (bloom_count hash : ℕ) → ℕ
bloom_word_at class order table bloom_count hash =
    word_at order (word_size class) table (16 + bit_and (hash / (word_size class * 8)) (bloom_count - 1) * word_size class)

abbrev pub value_at : Order → (table : List ℕ) → (values_at base : ℕ) → ℕ → ℕ
value_at order table values_at base i = word_at order 4 table (values_at + (i - base) * 4)

abbrev pub pair_ends : Order → (table : List ℕ) → (values_at base : ℕ) → ℕ → Bool
pair_ends order table values_at base i = odd (value_at order table values_at base i)
