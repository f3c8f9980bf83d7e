-- The lookup, from the header as it was read or refused.
--     find_from, find_from_lem    the lookup
--     lookup_none, lookup_walk    the lookup by the numbers of the header: without buckets, or a walk from the hash's bucket
-- Assumes nothing.
use Rattle.std.proofs.Common.{refl, ℕ, ◌+◌, ◌*◌, ◌%◌, ◌≡◌, Bool, true, false, cond, List, [], ◌∷◌, ltb, length, Result, Ok, Err, eq-eqb, ne_eqb}
use Rattle.std.proofs.Math.Option.{Option, some, none}
use Rattle.endian.specs.declared.kinds.Class.{Class}
use Rattle.endian.specs.declared.kinds.Order.{Order}
use Rattle.endian.specs.declared.refusals.Refusal.{Refusal}
use Rattle.endian.specs.Refusals.{limit, any_long, too_long, unless_refused}
use Rattle.endian.specs.Word.{word_at}
use Rattle.lookup.specs.declared.Lookup.{Lookup}
use Rattle.lookup.specs.Wanted.{Parts, Asked, all_parts, wanted, missing, walk}
use Rattle.sysv_header.specs.declared.header.Header.{Header}
use Rattle.sysv_header.specs.Header.{sysv_fault}
use Rattle.sysv_header.specs.Reading.{header_of, header_at}
use Rattle.sysv.specs.Layout.{sysv_table_of}
use Rattle.sysv.specs.Table.{visited, sysv_lookup}
use Rattle.sysv.specs.Find.{sysv_table, sysv_find}

abbrev pub find_from : Result Header Refusal → Lookup → Result Lookup Refusal
find_from (Ok header) answer = Ok answer
find_from (Err r) answer = Err r

module _ (class : Class) (order : Order) (p : Parts) (asked : Asked) (hash : ℕ) where
  pub find_from_lem : sysv_find class order p asked hash
      ≡ cond (any_long (all_parts p asked)) (Err too_long)
      (find_from (header_at order p.table) (sysv_lookup (sysv_table class order p) hash (wanted class order p asked)))
  unfolding sysv_find header_at
  find_from_lem =
      by (ltb limit (length p.table))
      (any_long (p.symbols ∷ p.strings ∷ p.versyms ∷ p.version_strings ∷ asked.name ∷ asked.need_name ∷ [])) (sysv_fault order p.table) _
    where
      by : (t u : Bool) (o : Option Refusal) (answer : Lookup)
          → cond (cond t true u) (Err too_long) (unless_refused Err o (Ok answer))
          ≡ cond (cond t true u) (Err too_long)
          (find_from (cond t (Err too_long) (unless_refused Err o (Ok (header_of order p.table)))) answer)
      by true true o answer = refl
      by true false o answer = refl
      by false true o answer = refl
      by false false none answer = refl
      by false false (some r) answer = refl

module _ (class : Class) (order : Order) (table symbols strings : List ℕ) (hash : ℕ) (match : ℕ → Bool) (header : Header)
    (own : header ≡ header_of order table) where
  pub lookup_none : header.bucket_count ≡ 0
      → sysv_lookup (sysv_table_of class order table symbols strings) hash match ≡ missing 0
  unfolding sysv_lookup
  lookup_none empty = let e = rw own at empty in rw (eq-eqb _ _ e)

  pub lookup_walk : ¬ (header.bucket_count ≡ 0)
      → sysv_lookup (sysv_table_of class order table symbols strings) hash match
      ≡ walk match
      (visited header.chain_count
      (λ i. word_at order 4 table (8 + header.bucket_count * 4 + i * 4)) header.chain_count
      (word_at order 4 table (8 + hash % header.bucket_count * 4)))
  unfolding sysv_lookup
  lookup_walk some-bucket = let e = rw own at some-bucket in rw (own, ne_eqb _ _ e)
