-- Need not be believed: the first broken rule of G1 to G5, of a header over so many symbols, if one is broken. The contract of a pass cites
-- it, and `gnu_check` shows that the checker is `gnu_check` through it.
--     first_broken     the same, of whether each of the five is kept
--     broken_header    of a header; these rules look at its numbers alone, so any class, order and bytes do
-- Assumes nothing.
use Rattle.std.specs.Prelude.{ℕ, Bool, cond, [], Option, Some, None}
use Rattle.endian.specs.declared.kinds.Class.TheVariants.{Elf32}
use Rattle.endian.specs.declared.kinds.Order.TheVariants.{Little}
use Rattle.gnu_table.specs.declared.header.Layout.{Layout}
use Rattle.gnu_table.specs.Places.{table_at}
use Rattle.gnu_rules.specs.Rules.{base_within, power_of_two, some_bucket, shift_within, enough_values}

abbrev pub first_broken : (g1 g2 g3 g4 g5 : Bool) → Option ℕ
first_broken g1 g2 g3 g4 g5 = cond g1 (cond g2 (cond g3 (cond g4 (cond g5 None (Some 5)) (Some 4)) (Some 3)) (Some 2)) (Some 1)

unfoldable pub broken_header : Layout → (count : ℕ) → Option ℕ
broken_header layout count =
    let t = table_at Elf32 Little [] layout count in
    first_broken (base_within t) (power_of_two t.bloom_count) (some_bucket t) (shift_within t) (enough_values t)
