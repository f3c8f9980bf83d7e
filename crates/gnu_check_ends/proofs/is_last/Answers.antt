-- `gnu_check_ends::is_last` meets its contract: the buckets that were computed are the definition's. Assumes nothing.
use Rattle.std.proofs.Common.{suc, ◌<◌, add-one, arith, lt-ltb, le-ltb}
use Rattle.gnu_check_ends.specs.Ends.{last_in}
use Rattle.gnu_check_ends.proofs.is_last.Goals as goal

pub returns-then-next-table : goal.returns-then-next-table
unfolding last_in
returns-then-next-table c =
    let a = c.args in
    rw (le-ltb (suc a.symbol.0) a.table.count (omega (arith, c.if-next-table.true)))

pub returns : goal.returns
unfolding last_in
returns c =
    let a = c.args in
    let within = c.requires.1 in
    let more : suc a.symbol.0 < a.table.count = omega (arith, c.if-next-table.false) in
    rw (lt-ltb (suc a.symbol.0) a.table.count more, ← (add-one a.symbol.0), ← c.symbol_hash.ensures, ← c.symbol_hash-2.ensures)
