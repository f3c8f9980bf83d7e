-- `symbol::table::symbol_at` meets its contract. Each answer is the one that its tests pick. Assumes nothing.
use Rattle.std.proofs.Common.{ap, arith, lt-ltb, le-ltb, eq-eqb, ne_eqb, le-leb, Ok}
use borrow.Author.Tests.{lt-leb}
use Rattle.symbol.specs.Table.{symbol_at}
use Rattle.symbol.proofs.Size.{end_fits}
use Rattle.symbol.proofs.table.symbol_at.Goals as goal

pub returns-then-symbols-gt-LIMIT : goal.returns-then-symbols-gt-LIMIT
unfolding symbol_at
returns-then-symbols-gt-LIMIT c = simp (lt-ltb _ _ c.if-symbols-gt-LIMIT.true)

pub returns-then-index-eq0 : goal.returns-then-index-eq0
unfolding symbol_at
returns-then-index-eq0 c = simp (le-ltb _ _ c.if-symbols-gt-LIMIT.false, eq-eqb _ _ c.if-index-eq0.true)

pub overflow_mul-number : goal.overflow_mul-number
overflow_mul-number c =
    let args = c.args in
    rw c.symbol_size-record.ensures (record { fits = end_fits args.class args.index.0 (omega arith) })

pub returns-then-symbols-number : goal.returns-then-symbols-number
unfolding symbol_at
returns-then-symbols-number c =
    let out = rw c.symbol_size-record.ensures at c.if-symbols-number.true in
    simp (le-ltb _ _ c.if-symbols-gt-LIMIT.false, ne_eqb _ _ c.if-index-eq0.false, lt-leb _ _ out)

pub returns : goal.returns
unfolding symbol_at
returns c =
    let whole = rw c.symbol_size-record.ensures at c.if-symbols-number.false in
    let read = rw c.symbol_size-record.ensures at c.symbol_of.ensures in
    simp (le-ltb _ _ c.if-symbols-gt-LIMIT.false, ne_eqb _ _ c.if-index-eq0.false, le-leb _ _ whole) (ap Ok read)
