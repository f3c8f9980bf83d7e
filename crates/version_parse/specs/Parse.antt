-- Version parsing as a whole (01, module 5 and "The store"): what it answers, and the store after it.
--     ParsedStore               the highest index and the store
--     parsed_into               what parsing comes to over a store: 1, the first pass, 22, the second pass
--     parsed                    the same over n zeros
--     answer_of, store_after    what is answered, and the n numbers of the store afterwards: all 0 after a refusal
-- Assumes nothing.
use Rattle.std.specs.Prelude.{ℕ, List, [], ◌∷◌, cond, length, replicate, ltb, Result, Ok, Err}
use Rattle.endian.specs.declared.kinds.Order.{Order}
use Rattle.endian.specs.declared.refusals.Refusal.{Refusal}
use Rattle.endian.specs.Refusals.{any_long, too_long, store_too_small}
use Rattle.version_records.specs.Outcome.{Outcome, bind, folded}
use Rattle.version_highest.specs.Highest.{highest_index}
use Rattle.version.specs.Store.{store_needs, put_entry}
use Rattle.version_parse.specs.SecondPass.{entries}
use Rattle.version.specs.declared.index.VersionIndex.{VersionIndex}

pub record ParsedStore : Type 0 where
  pub highest : VersionIndex
  pub store : List ℕ

-- each version is put over what was there: later records overwrite
unfoldable pub parsed_into : Order → (verdef verneed strings store : List ℕ) → Outcome ParsedStore
parsed_into order verdef verneed strings store =
    cond (any_long (verdef ∷ verneed ∷ strings ∷ [])) (Err too_long)
    (bind (highest_index order verdef verneed) (λ high.
    cond (ltb (length store) (store_needs high)) (Err store_too_small)
    (bind (folded put_entry store (entries order verdef verneed strings)) (λ filled.
    Ok (record { highest = high; store = filled })))))

abbrev pub parsed : Order → (verdef verneed strings : List ℕ) → (n : ℕ) → Outcome ParsedStore
parsed order verdef verneed strings n = parsed_into order verdef verneed strings (replicate n 0)

abbrev pub answer_of : Outcome ParsedStore → Result VersionIndex Refusal
answer_of (Ok table) = Ok table.highest
answer_of (Err e) = Err e

abbrev pub store_after : (n : ℕ) → Outcome ParsedStore → List ℕ
store_after n (Ok table) = table.store
store_after n (Err e) = replicate n 0
