-- Need not be believed: the walk over pairs (01, "Lookups"), of places in the bytes. The contract of an inner function cites
-- it, and proofs show that it is the walk of `gnu_lookup`.
--     pair_matches    whether a symbol's pair is the one that is looked for
--     walk_pairs      the walk over the pairs of symbols start to end - 1
-- Assumes nothing.
use Rattle.std.specs.Prelude.{ℕ, ◌-◌, Bool, ◌&&◌}
use Rattle.endian.specs.declared.kinds.Class.{Class}
use Rattle.endian.specs.declared.kinds.Order.{Order}
use Rattle.lookup.specs.declared.Lookup.{Lookup}
use Rattle.lookup.specs.Pick.{from, up_to}
use Rattle.lookup.specs.Wanted.{Parts, Asked, wanted, walk}
use Rattle.gnu_table.specs.Table.{same_but_low}
use Rattle.gnu_table.specs.Places.{value_at, pair_ends}

abbrev pub pair_matches : Class → Order → Parts → Asked → (hash values_at base : ℕ) → ℕ → Bool
pair_matches class order p asked hash values_at base i =
    same_but_low (value_at order p.table values_at base i) hash && wanted class order p asked i

unfoldable pub walk_pairs : Class → Order → Parts → Asked → (hash values_at base start end : ℕ) → Lookup
walk_pairs class order p asked hash values_at base start end =
    walk (pair_matches class order p asked hash values_at base)
    (up_to (pair_ends order p.table values_at base) (from start (end - start)))
