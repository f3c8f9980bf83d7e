-- Need not be believed: the table that a pass of the checker is lent, by what stands behind its references. Inner contracts
-- cite it.
--     table_of    that table, over its symbols
-- Assumes nothing.
use Rattle.gnu_table.specs.Table.{GnuTable}
use Rattle.gnu_table.specs.Layout.{table_with}
use Rattle.gnu_check_hashes.specs.declared.table.Table.{Table}

abbrev pub table_of : Table → GnuTable
table_of lent =
    table_with lent.class lent.order lent.bytes.now lent.symbols.now lent.strings.now lent.layout lent.count
