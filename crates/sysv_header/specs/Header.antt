-- The header of a SysV table (01, "Layouts" and "Lookups"), and where the buckets and the chains stand after it.
--     bucket_count_of, chain_count_of    its two numbers
--     chains_at                          where the chains start
--     sysv_fault                         refusal 23, 24 or 25, where the header, the buckets or the chains are not whole
--     sysv_length                        how many chains there are, or why there is no whole table
-- Assumes nothing.
use Rattle.std.specs.Prelude.{ℕ, ◌+◌, ◌*◌, cond, List, ltb, length, Result, Ok, Err}
use Rattle.std.proofs.Math.Option.{Option, some, none}
use Rattle.endian.specs.declared.kinds.Order.{Order}
use Rattle.endian.specs.declared.refusals.Refusal.{Refusal}
use Rattle.endian.specs.Refusals.{limit, too_long, unless_refused, bad_sysv_header, bad_sysv_buckets, bad_sysv_chains}
use Rattle.endian.specs.Word.{word_at}

module _ (order : Order) (table : List ℕ) where
  abbrev pub bucket_count_of : ℕ
  bucket_count_of = word_at order 4 table 0

  abbrev pub chain_count_of : ℕ
  chain_count_of = word_at order 4 table 4

  abbrev pub chains_at : ℕ
  chains_at = 8 + bucket_count_of * 4

  abbrev pub sysv_fault : Option Refusal
  sysv_fault =
      cond (ltb (length table) 8) (some bad_sysv_header)
      (cond (ltb (length table) chains_at) (some bad_sysv_buckets)
      (cond (ltb (length table) (chains_at + chain_count_of * 4)) (some bad_sysv_chains) none))

  unfoldable pub sysv_length : Result ℕ Refusal
  sysv_length = cond (ltb limit (length table)) (Err too_long) (unless_refused Err sysv_fault (Ok chain_count_of))
