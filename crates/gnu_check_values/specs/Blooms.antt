-- Need not be believed: G8 as the pass over the symbols asks it, whether the bloom filter of a lookup lets a symbol's hash
-- pass. Where there are bloom words and the shift is no more than 31 (G2, G4), this is that both bits are set:
-- `Filtered.bits_set`.
-- Assumes nothing.
use Rattle.std.specs.Prelude.{ℕ, Bool, false, Result}
use Rattle.std.specs.Result.{result_unwrap_or}
use Rattle.endian.specs.declared.refusals.Refusal.{Refusal}
use Rattle.gnu_table.specs.Table.{GnuTable, bloom_filter}
use Rattle.gnu_rules.specs.Rules.{gnu_hash_at}

abbrev pub passes : Result Bool Refusal → Bool
passes filter = result_unwrap_or filter false

unfoldable pub hash_passes : GnuTable → ℕ → Bool
hash_passes t i = passes (bloom_filter t (gnu_hash_at t i))
