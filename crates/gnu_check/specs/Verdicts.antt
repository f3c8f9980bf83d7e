-- Need not be believed: the checker's answer from G6 on and from G9 on. Contracts of inner functions cite it, and proofs show
-- that it is what is left of `gnu_table_check`.
--     Sound           what the passes ask of a table that keeps G1 to G5
--     from_names      the answer from G6 on
--     from_buckets    the answer from G9 on
-- Assumes nothing.
use Rattle.std.specs.Prelude.{ℕ, ◌≤◌, [], ◌∷◌, Result}
use Rattle.lookup.specs.Pick.{from}
use Rattle.gnu_table.specs.declared.header.Layout.{Layout}
use Rattle.gnu_table.specs.Table.{GnuTable, hashed}
use Rattle.gnu_rules.specs.declared.Fault.{Fault}
use Rattle.gnu_rules.specs.Rules.{name_readable, value_is_hash, bloom_bits_set, bucket_right, ends_at_last, lowest, longest, verdict}

pub record Sound (layout : Layout) (count : ℕ) : Type 0 where
  pub base : layout.symbol_base ≤ count
  pub blooms : 1 ≤ layout.bloom_count
  pub buckets : 1 ≤ layout.bucket_count
  pub shift : layout.bloom_shift ≤ 31

unfoldable pub from_buckets : GnuTable → Result ℕ Fault
from_buckets t =
    verdict (longest t) 9 (lowest (bucket_right t) (from 0 t.bucket_count) ∷ lowest (ends_at_last t) (hashed t) ∷ [])

unfoldable pub from_names : GnuTable → Result ℕ Fault
from_names t =
    verdict (longest t) 6
    (lowest (name_readable t) (hashed t) ∷
    lowest (value_is_hash t) (hashed t) ∷
    lowest (bloom_bits_set t) (hashed t) ∷
    lowest (bucket_right t) (from 0 t.bucket_count) ∷
    lowest (ends_at_last t) (hashed t) ∷
    [])
