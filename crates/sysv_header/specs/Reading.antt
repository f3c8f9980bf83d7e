-- Need not be believed: the header of a SysV table as one value. Contracts of inner functions cite it, and proofs show that
-- lookup, length and checker are theirs through it.
--     header_of    its two numbers
--     header_at    the header, or why there is no whole table
-- Assumes nothing.
use Rattle.std.specs.Prelude.{ℕ, cond, List, ltb, length, Result, Ok, Err}
use Rattle.endian.specs.declared.kinds.Order.{Order}
use Rattle.endian.specs.declared.refusals.Refusal.{Refusal}
use Rattle.endian.specs.Refusals.{limit, too_long, unless_refused}
use Rattle.sysv_header.specs.declared.header.Header.{Header}
use Rattle.sysv_header.specs.Header.{bucket_count_of, chain_count_of, sysv_fault}

module _ (order : Order) (table : List ℕ) where
  abbrev pub header_of : Header
  header_of = record { bucket_count = bucket_count_of order table; chain_count = chain_count_of order table }

  unfoldable pub header_at : Result Header Refusal
  header_at = cond (ltb limit (length table)) (Err too_long) (unless_refused Err (sysv_fault order table) (Ok header_of))
