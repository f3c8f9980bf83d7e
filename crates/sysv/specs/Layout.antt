-- The table of the bytes (01, "Layouts"), over its symbols. Assumes nothing.
use Rattle.std.specs.Prelude.{ℕ, ◌+◌, ◌*◌, List}
use Rattle.endian.specs.declared.kinds.Class.{Class}
use Rattle.endian.specs.declared.kinds.Order.{Order}
use Rattle.endian.specs.Word.{word_at}
use Rattle.symbol.specs.Table.{symbols_in}
use Rattle.lookup.specs.Wanted.{name_of}
use Rattle.sysv_header.specs.Header.{bucket_count_of, chain_count_of, chains_at}
use Rattle.sysv.specs.Table.{SysvTable}

abbrev pub sysv_table_of : Class → Order → (table symbols strings : List ℕ) → SysvTable
sysv_table_of class order table symbols strings = record {
  bucket_count = bucket_count_of order table;
  chain_count = chain_count_of order table;
  bucket = λ b. word_at order 4 table (8 + b * 4);
  chain = λ i. word_at order 4 table (chains_at order table + i * 4);
  count = symbols_in class symbols;
  name = name_of class order symbols strings;
}
