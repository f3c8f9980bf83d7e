-- The GNU lookup of the bytes (01, "Lookups"): part too long (1), the table's places (26 to 28), then the lookup.
-- Assumes nothing.
use Rattle.std.specs.Prelude.{ℕ, cond, Result, Err}
use Rattle.endian.specs.declared.kinds.Class.{Class}
use Rattle.endian.specs.declared.kinds.Order.{Order}
use Rattle.endian.specs.declared.refusals.Refusal.{Refusal}
use Rattle.endian.specs.Refusals.{any_long, too_long, unless_refused}
use Rattle.lookup.specs.declared.Lookup.{Lookup}
use Rattle.lookup.specs.Wanted.{Parts, Asked, all_parts, wanted}
use Rattle.gnu_table.specs.Table.{GnuTable}
use Rattle.gnu_table.specs.Layout.{gnu_table_of}
use Rattle.gnu_table.specs.Header.{gnu_fault}
use Rattle.gnu.specs.Lookup.{gnu_lookup}

abbrev pub gnu_table : Class → Order → Parts → GnuTable
gnu_table class order p = gnu_table_of class order p.table p.symbols p.strings

unfoldable pub gnu_find : Class → Order → Parts → Asked → (hash : ℕ) → Result Lookup Refusal
gnu_find class order p asked hash =
    cond (any_long (all_parts p asked)) (Err too_long)
    (unless_refused Err (gnu_fault class order p.table) (gnu_lookup (gnu_table class order p) hash (wanted class order p asked)))
