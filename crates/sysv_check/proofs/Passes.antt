-- The checker's answer from the answers of its passes, and from what its first steps refuse.
--     header_is                     the header by its two numbers
--     shaped_facts                  what T1 leaves to the passes after it
--     check_1, _2, _3, _all         the first rule that is broken, or none
--     check_from, check_from_lem    the checker's answer by the counted symbols and the header
--     count_read                    symbols that were counted
--     number_there                  whether a pass answers a symbol
-- Assumes nothing.
use Rattle.std.proofs.Common.{ℕ, ◌+◌, ◌-◌, ◌*◌, ◌%◌, ◌≤◌, ◌≡◌, refl, sym, ◌∙◌, Bool, true, false, cond, not, ◌&&◌, List, leb, ltb, eqb, length, leb-true, Result, Ok, Err, Some, None, is_some, option_map}
use mathlib.Core.Option.{Option, some, none}
use Rattle.endian.specs.declared.kinds.Class.{Class}
use Rattle.endian.specs.declared.kinds.Order.{Order}
use Rattle.endian.specs.declared.refusals.Refusal.{Refusal}
use Rattle.endian.specs.Refusals.{limit, too_long, unless_refused}
use Rattle.endian.specs.Word.{word_at}
use Rattle.std.specs.Prelude as std
use Rattle.symbol.specs.Table.{symbols_in, symbol_count, symbol_index}
use Rattle.lookup.specs.Search.{first_from}
use Rattle.lookup.specs.Wanted.{name_of}
use Rattle.lookup.proofs.Picking.{and_left, and_right}
use Rattle.readable_names.specs.Readable.{readable_in}
use Rattle.sysv_header.specs.declared.header.Header.{Header}
use Rattle.sysv_header.specs.Header.{bucket_count_of, chain_count_of, sysv_fault}
use Rattle.sysv_header.specs.Reading.{header_of, header_at}
use Rattle.sysv.specs.Layout.{sysv_table_of}
use Rattle.sysv.specs.Table.{SysvTable}
use Rattle.sysv_check.specs.declared.table.Fault.{Fault}
use Rattle.sysv_check.specs.declared.table.Fault.TheVariants.{Broken, Refused}
use Rattle.sysv_check.specs.Rules.{first_global, t1, t2, t3, sysv_table_check}
use Rattle.sysv_check_chains.specs.Pass.{may_stand, all_spent}
use Rattle.sysv_check_chains.specs.Hash.{sysv_hash_at}
use Rattle.sysv_check.specs.Check.{sysv_check}
use Rattle.sysv_check.proofs.Counted.{counted}
use Rattle.sysv_check.proofs.Readings.{every_searched, every_missed}

pub header_is : (order : Order) (table : List ℕ) (buckets chains : ℕ) → buckets ≡ bucket_count_of order table
    → chains ≡ chain_count_of order table → record { bucket_count = buckets; chain_count = chains } ≡ header_of order table
header_is order table buckets chains first second = rw (first, second)

pub shaped_facts : (buckets chains count low : ℕ) → t1 buckets chains count low ≡ true → (1 ≤ buckets) × (low ≤ count)
shaped_facts buckets chains count low h =
    let rest = eqb chains count && leb 1 buckets in
    let h0 = and_right (leb 1 low) (leb low count && rest) h in
    let h1 = and_right (leb low count) rest h0 in
    (leb-true 1 buckets (and_right (eqb chains count) (leb 1 buckets) h1), leb-true low count (and_left (leb low count) rest h0))

-- ---- the rules

module _ (class : Class) (order : Order) (table symbols strings : List ℕ) (low : ℕ) (header : Header) (count : ℕ)
    (own : header ≡ header_of order table) (many : count ≡ symbols_in class symbols) where
  abbrev whole : SysvTable
  whole = sysv_table_of class order table symbols strings

  abbrev shapes : Bool
  shapes = t1 header.bucket_count header.chain_count count low

  abbrev unread : std.Option ℕ
  unread = first_from (λ i. not (readable_in class order symbols strings i)) low count

  abbrev counts : Bool
  counts =
      all_spent (λ j. word_at order 4 table (8 + header.bucket_count * 4 + j * 4)) (λ b. word_at order 4 table (8 + b * 4))
      (may_stand (λ j. sysv_hash_at (name_of class order symbols strings) j % header.bucket_count) low count)
      header.bucket_count (count - low)

  shape_is : t1 whole.bucket_count whole.chain_count whole.count low ≡ shapes
  shape_is = rw (own, many)

  chains_is : t1 whole.bucket_count whole.chain_count whole.count low ≡ true → t3 whole low ≡ counts
  chains_is h = rw (own, many) (sym (counted whole low h))

  pub check_1 : shapes ≡ false → sysv_table_check whole low ≡ Err (Broken 1)
  check_1 e = rw (shape_is ∙ e)

  module _ (one : shapes ≡ true) where
    names_kept : is_some unread ≡ false → t2 whole low ≡ true
    names_kept nothing = rw (← many) (every_searched (readable_in class order symbols strings) low count nothing)

    names_broken : is_some unread ≡ true → t2 whole low ≡ false
    names_broken something = rw (← many) (every_missed (readable_in class order symbols strings) low count something)

    pub check_2 : is_some unread ≡ true → sysv_table_check whole low ≡ Err (Broken 2)
    check_2 something = rw (shape_is ∙ one, names_broken something)

    module _ (nothing : is_some unread ≡ false) where
      pub check_3 : counts ≡ false → sysv_table_check whole low ≡ Err (Broken 3)
      check_3 e = rw (shape_is ∙ one, names_kept nothing, chains_is (shape_is ∙ one) ∙ e)

      pub check_all : counts ≡ true → sysv_table_check whole low ≡ Ok tt
      check_all e = rw (shape_is ∙ one, names_kept nothing, chains_is (shape_is ∙ one) ∙ e)

pub number_there : (o : std.Option ℕ) → is_some (option_map symbol_index o) ≡ is_some o
number_there None = refl
number_there (Some i) = refl

-- ---- the refusals

abbrev pub check_from : Result ℕ Refusal → Result Header Refusal → Result (Unit {0}) Fault → Result (Unit {0}) Fault
check_from (Err r) header checked = Err (Refused r)
check_from (Ok n) (Err r) checked = Err (Refused r)
check_from (Ok n) (Ok header) checked = checked

module _ (class : Class) (order : Order) (table symbols strings : List ℕ) where
  pub check_from_lem : sysv_check class order table symbols strings
      ≡ cond (ltb limit (length strings)) (Err (Refused too_long))
      (check_from (symbol_count class symbols) (header_at order table)
      (sysv_table_check (sysv_table_of class order table symbols strings) first_global))
  unfolding sysv_check header_at
  check_from_lem =
      by (ltb limit (length table)) (ltb limit (length symbols)) (ltb limit (length strings)) (sysv_fault order table) _
    where
      by : (a b c : Bool) (o : Option Refusal) (checked : Result (Unit {0}) Fault)
          → cond (cond a true (cond b true (cond c true false))) (Err (Refused too_long)) (unless_refused (λ r. Err (Refused r)) o checked)
          ≡ cond c (Err (Refused too_long))
          (check_from (cond b (Err too_long) (Ok (symbols_in class symbols)))
          (cond a (Err too_long) (unless_refused Err o (Ok (header_of order table)))) checked)
      by true true true o checked = refl
      by true true false o checked = refl
      by true false true o checked = refl
      by true false false o checked = refl
      by false true true o checked = refl
      by false true false o checked = refl
      by false false true o checked = refl
      by false false false none checked = refl
      by false false false (some r) checked = refl

pub count_read : (class : Class) (symbols : List ℕ) (n : ℕ) → symbol_count class symbols ≡ Ok n → n ≡ symbols_in class symbols
count_read class symbols n h = by (ltb limit (length symbols)) h
  where
    by : (b : Bool) → cond {A = Result ℕ Refusal} b (Err too_long) (Ok (symbols_in class symbols)) ≡ Ok n → n ≡ symbols_in class symbols
    by true e = cc
    by false e = cc
