-- `gnu_length::length_from` meets its contract. Invariant: the first of the symbols from i on is the first of all.
-- Assumes nothing.
use Rattle.std.proofs.Common.{◌-◌, ◌≡◌}
use Rattle.lookup.specs.Pick.{from, first_of}
use Rattle.gnu_table.specs.Places.{pair_ends}
use Rattle.gnu_length.proofs.length_from.Given as goal

abbrev pub invariant-loop-i : goal.invariant-loop-i
invariant-loop-i l =
    first_of (pair_ends l.order l.table l.values_at l.base) (from l.i (l.end - l.i))
    ≡ first_of (pair_ends l.order l.table l.values_at l.base) (from l.start (l.end - l.start))
