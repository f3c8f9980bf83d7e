-- Need not be believed: G10 and the longest chain by runs of neighbours in one bucket, as one pass over the symbols sees them.
-- After G9 it is G10 itself, and the longest chain: `Judged.from_buckets_10` and `from_buckets_accepted` of `gnu_check`.
--     last_in          the next symbol is of another bucket, or there is none
--     last_of_run      the same in a table
--     ends_run         low bit 1 exactly at the last symbol of a run
--     wrong_end        the lowest hashed symbol whose low bit is wrong, if there is one
--     chain_start      the start of the chain that a hashed symbol is in, by the low bits and how far it is past symbol_base
--     longest_chain    the longest chain, by the low bits, or 0
-- Assumes nothing.
use Rattle.std.specs.Prelude.{ℕ, zero, suc, ◌+◌, ◌-◌, ◌%◌, Bool, cond, not, ◌&&◌, List, map, ltb, eqb, Option, None}
use Rattle.std.specs.Bool.{beq}
use Rattle.endian.specs.declared.kinds.Class.{Class}
use Rattle.endian.specs.declared.kinds.Order.{Order}
use Rattle.lookup.specs.Pick.{from, largest}
use Rattle.gnu_table.specs.Table.{GnuTable, value_of, odd}
use Rattle.gnu_rules.specs.Rules.{gnu_bucket_of, in_bucket}
use Rattle.lookup.specs.Search.{first_from}
use Rattle.gnu_check_hashes.specs.Names.{hash_in}

unfoldable pub last_in : Class → Order → (symbols strings : List ℕ) → (buckets count : ℕ) → ℕ → Bool
last_in class order symbols strings buckets count i =
    not (ltb (suc i) count && eqb (hash_in class order symbols strings (suc i) % buckets)
    (hash_in class order symbols strings i % buckets))

module _ (t : GnuTable) where
  abbrev pub last_of_run : ℕ → Bool
  last_of_run i = not (ltb (suc i) t.count && in_bucket t (gnu_bucket_of t i) (suc i))

  abbrev pub ends_run : ℕ → Bool
  ends_run i = beq (odd (value_of t i)) (last_of_run i)

  -- of no buckets, none is wrong
  unfoldable pub wrong_end : Option ℕ
  wrong_end = cond (eqb t.bucket_count 0) None (first_from (λ i. not (ends_run i)) t.base t.count)

-- by symbol_base and the values, by place
module _ (base : ℕ) (value : ℕ → ℕ) where
  unfoldable pub chain_start : ℕ → ℕ
  chain_start zero = base
  chain_start (suc k) = cond (odd (value k)) (base + suc k) (chain_start k)

  abbrev pub longest_chain : (count : ℕ) → ℕ
  longest_chain count = largest (map (λ i. suc i - chain_start (i - base)) (from base (count - base)))
