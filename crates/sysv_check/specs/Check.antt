-- The SysV checker on bytes (01, "SysV checker"): part too long (1), the table's places (23 to 25), then T1, T2, T3.
-- Assumes nothing.
use Rattle.std.specs.Prelude.{ℕ, cond, List, [], ◌∷◌, Result, Err}
use Rattle.endian.specs.declared.kinds.Class.{Class}
use Rattle.endian.specs.declared.kinds.Order.{Order}
use Rattle.endian.specs.Refusals.{any_long, too_long, unless_refused}
use Rattle.sysv_header.specs.Header.{sysv_fault}
use Rattle.sysv.specs.Layout.{sysv_table_of}
use Rattle.sysv_check.specs.declared.table.Fault.{Fault}
use Rattle.sysv_check.specs.declared.table.Fault.TheVariants.{Refused}
use Rattle.sysv_check.specs.Rules.{first_global, sysv_table_check}

unfoldable pub sysv_check : Class → Order → (table symbols strings : List ℕ) → Result (Unit {0}) Fault
sysv_check class order table symbols strings =
    cond (any_long (table ∷ symbols ∷ strings ∷ [])) (Err (Refused too_long))
    (unless_refused (λ r. Err (Refused r)) (sysv_fault order table) (sysv_table_check (sysv_table_of class order table symbols strings) first_global))
