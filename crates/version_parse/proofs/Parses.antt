-- What parsing comes to, case by case.
--     parsed_long                   a part is too long
--     parsed_first, parsed_small    refused by the first pass; by the store's length
--     parsed_second, parsed_done    refused by the second pass; done
-- Assumes nothing.
use Rattle.std.proofs.Common.{ℕ, ◌<◌, ◌≤◌, ◌≡◌, Bool, true, false, List, [], ◌∷◌, length, lt-ltb, le-ltb, Ok, Err}
use Rattle.endian.specs.declared.kinds.Order.{Order}
use Rattle.endian.specs.declared.refusals.Refusal.{Refusal}
use Rattle.endian.specs.Refusals.{any_long, too_long, store_too_small}
use Rattle.version_records.specs.Outcome.{folded}
use Rattle.version_highest.specs.Highest.{highest_index}
use Rattle.version.specs.Store.{store_needs, put_entry}
use Rattle.version_parse.specs.SecondPass.{entries}
use Rattle.version_parse.specs.Parse.{parsed_into}
use Rattle.version.specs.declared.index.VersionIndex.{VersionIndex}

module _ (order : Order) (verdef verneed strings st : List ℕ) where
  abbrev long : Bool
  long = any_long (verdef ∷ verneed ∷ strings ∷ [])

  pub parsed_long : long ≡ true → Err too_long ≡ parsed_into order verdef verneed strings st
  unfolding parsed_into
  parsed_long h = rw h

  module _ (fits : long ≡ false) where
    pub parsed_first : (e : Refusal) → highest_index order verdef verneed ≡ Err e
        → Err e ≡ parsed_into order verdef verneed strings st
    unfolding parsed_into
    parsed_first e h = rw (fits, h)

    module _ (high : VersionIndex) (h : highest_index order verdef verneed ≡ Ok high) where
      pub parsed_small : length st < store_needs high → Err store_too_small ≡ parsed_into order verdef verneed strings st
      unfolding parsed_into
      parsed_small l = rw (fits, h, lt-ltb _ _ l)

      module _ (l : store_needs high ≤ length st) where
        pub parsed_second : (e : Refusal) → Err e ≡ folded put_entry st (entries order verdef verneed strings)
            → Err e ≡ parsed_into order verdef verneed strings st
        unfolding parsed_into
        parsed_second e f = rw (fits, h, le-ltb _ _ l, ← f)

        pub parsed_done : (filled : List ℕ) → Ok filled ≡ folded put_entry st (entries order verdef verneed strings)
            → Ok (record { highest = high; store = filled }) ≡ parsed_into order verdef verneed strings st
        unfolding parsed_into
        parsed_done filled f = rw (fits, h, le-ltb _ _ l, ← f)
