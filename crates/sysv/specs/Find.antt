-- The SysV lookup of the bytes (01, "Lookups"): part too long (1), the table's places (23 to 25), then the answer.
-- Assumes nothing.
use Rattle.std.specs.Prelude.{ℕ, cond, Result, Ok, Err}
use Rattle.endian.specs.declared.kinds.Class.{Class}
use Rattle.endian.specs.declared.kinds.Order.{Order}
use Rattle.endian.specs.declared.refusals.Refusal.{Refusal}
use Rattle.endian.specs.Refusals.{any_long, too_long, unless_refused}
use Rattle.lookup.specs.declared.Lookup.{Lookup}
use Rattle.lookup.specs.Wanted.{Parts, Asked, all_parts, wanted}
use Rattle.sysv_header.specs.Header.{sysv_fault}
use Rattle.sysv.specs.Table.{SysvTable, sysv_lookup}
use Rattle.sysv.specs.Layout.{sysv_table_of}

abbrev pub sysv_table : Class → Order → Parts → SysvTable
sysv_table class order p = sysv_table_of class order p.table p.symbols p.strings

unfoldable pub sysv_find : Class → Order → Parts → Asked → (hash : ℕ) → Result Lookup Refusal
sysv_find class order p asked hash =
    cond (any_long (all_parts p asked)) (Err too_long)
    (unless_refused Err (sysv_fault order p.table) (Ok (sysv_lookup (sysv_table class order p) hash (wanted class order p asked))))
