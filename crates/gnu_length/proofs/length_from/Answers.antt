-- `gnu_length::length_from` meets its contract. Invariant: the first of the symbols from i on is the first of all.
-- Assumes nothing.
use Rattle.std.proofs.Common.{◌≡◌, sym, ◌∙◌, false, ne_eqb}
use Rattle.gnu_table.specs.Places.{pair_ends}
use Rattle.gnu_length.proofs.Lengths.{chain_on}
use Rattle.gnu_length.proofs.length_from.Goals as goal

pub loop-i-preserved : goal.loop-i-preserved
loop-i-preserved c =
    let a = c.args in
    let ends = pair_ends a.order a.table.now a.values_at a.base in
    let on : ends c.loop-i.i ≡ false = rw (← c.u32_at-value.ensures) (ne_eqb _ 1 c.if-value-eq1.false) in
    sym (chain_on ends c.loop-i.i a.end c.loop-i-test.true on) ∙ c.loop-i.invariant
