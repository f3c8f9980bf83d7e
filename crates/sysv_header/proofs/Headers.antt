-- What follows from the header, as it was read or refused.
--     count_from, length_from    the length
--     header_read                a header that was read: the table is whole, and the header is its own
-- Assumes nothing.
use Rattle.std.proofs.Common.{refl, ℕ, ◌≡◌, Bool, true, false, cond, List, ltb, length, Result, Ok, Err}
use Rattle.std.proofs.Math.Option.{Option, some, none}
use Rattle.endian.specs.declared.kinds.Order.{Order}
use Rattle.endian.specs.declared.refusals.Refusal.{Refusal}
use Rattle.endian.specs.Refusals.{limit, too_long, unless_refused}
use Rattle.sysv_header.specs.declared.header.Header.{Header}
use Rattle.sysv_header.specs.Header.{sysv_fault, chain_count_of, sysv_length}
use Rattle.sysv_header.specs.Reading.{header_of, header_at}

abbrev pub count_from : Result Header Refusal → Result ℕ Refusal
count_from (Ok header) = Ok header.chain_count
count_from (Err r) = Err r

module _ (order : Order) (table : List ℕ) where
  pub length_from : sysv_length order table ≡ count_from (header_at order table)
  unfolding sysv_length header_at
  length_from = by (ltb limit (length table)) (sysv_fault order table)
    where
      by : (t : Bool) (o : Option Refusal)
          → cond t (Err too_long) (unless_refused Err o (Ok (chain_count_of order table)))
          ≡ count_from (cond t (Err too_long) (unless_refused Err o (Ok (header_of order table))))
      by true o = refl
      by false none = refl
      by false (some r) = refl

  pub header_read : (header : Header) → header_at order table ≡ Ok header
      → (ltb limit (length table) ≡ false) × (sysv_fault order table ≡ none) × (header ≡ header_of order table)
  unfolding header_at
  header_read header h = by (ltb limit (length table)) (sysv_fault order table) h
    where
      by : (t : Bool) (o : Option Refusal)
          → cond t (Err too_long) (unless_refused Err o (Ok (header_of order table))) ≡ Ok header
          → (t ≡ false) × (o ≡ none) × (header ≡ header_of order table)
      by true o e = (cc, cc, cc)
      by false none e = (refl, refl, cc)
      by false (some r) e = (cc, cc, cc)
