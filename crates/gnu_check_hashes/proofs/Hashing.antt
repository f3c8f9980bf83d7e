-- The hash of a string, from a place on, with h so far; of a string that has no end it is the hash of the empty name.
--     hash_from                              that hash
--     hash_from_start, _end, _step, _none    where it starts, at a zero, at another byte, past the bytes
--     hash_at_long                           strings that are too long
--     hash_in_at, hash_in_none               the hash of a symbol's name: by its record, and where there is none
-- Assumes nothing.
use Rattle.std.proofs.Common.{ℕ, suc, ◌+◌, ◌≤◌, ◌<◌, ◌≡◌, refl, ap, Bool, true, false, cond, List, [], ◌∷◌, add-one, arith, length, get_or, take, drop, drop_of_length-le, drop-cons, ne_eqb, lt-ltb, le-ltb, Result, Ok, Err}
use mathlib.Core.List.{foldl}
use mathlib.Core.Option
use lib.Dec.{leb-suc-suc}
use Rattle.endian.specs.declared.kinds.Class.{Class}
use Rattle.endian.specs.declared.kinds.Order.{Order}
use Rattle.endian.specs.declared.refusals.Refusal.{Refusal}
use Rattle.endian.specs.First.{first, is_zero, readable}
use Rattle.endian.specs.Refusals.{limit, no_string}
use Rattle.strings.specs.declared.Place.{Place}
use Rattle.symbol_entry.specs.declared.Symbol.{Symbol}
use Rattle.symbol.specs.Table.{symbol_at, symbol_index}
use Rattle.name_hash.specs.Hash.{gnu_step, gnu_hash}
use Rattle.lookup.specs.Wanted.{bytes_of}
use Rattle.lookup.proofs.Named.{name_at, name_none}
use Rattle.gnu_check_hashes.specs.Names.{hash_at, hash_in}

unfoldable pub hash_from : ℕ → List ℕ → ℕ
hash_from h rest = cond (readable rest) (foldl gnu_step h (take (first is_zero rest) rest)) 5381

pub hash_from_start : (s : List ℕ) (at : ℕ) → length s ≤ limit → hash_from 5381 (drop at s) ≡ hash_at s at
unfolding hash_from hash_at gnu_hash
hash_from_start s at short = rw (le-ltb limit (length s) short) (by (readable (drop at s)))
  where
    by : (t : Bool)
        → cond t (foldl gnu_step 5381 (take (first is_zero (drop at s)) (drop at s))) 5381
        ≡ foldl gnu_step 5381 (Option.get_or (bytes_of s (cond {A = Result Place Refusal} t (Ok (record { start = at; len = first is_zero (drop at s) })) (Err no_string))) [])
    by true = refl
    by false = refl

hash_from_zero : (h : ℕ) (rest : List ℕ) → hash_from h (0 ∷ rest) ≡ h
unfolding hash_from readable first
hash_from_zero h rest = simp (lt-ltb 0 (suc (length rest)) (omega arith))

hash_from_next : (h b : ℕ) (rest : List ℕ) → ¬ (b ≡ 0) → hash_from h (b ∷ rest) ≡ hash_from (gnu_step h b) rest
unfolding hash_from readable first
hash_from_next h b rest other = simp (ne_eqb b 0 other, leb-suc-suc)

module _ (h : ℕ) (s : List ℕ) (i : ℕ) where
  pub hash_from_end : i < length s → get_or s i 0 ≡ 0 → hash_from h (drop i s) ≡ h
  hash_from_end more ended = rw (drop-cons s i 0, ended) (hash_from_zero h (drop (suc i) s))

  pub hash_from_step : i < length s → ¬ (get_or s i 0 ≡ 0)
      → hash_from h (drop i s) ≡ hash_from (gnu_step h (get_or s i 0)) (drop (i + 1) s)
  hash_from_step more other = rw (drop-cons s i 0, add-one i) (hash_from_next h (get_or s i 0) (drop (suc i) s) other)

  pub hash_from_none : length s ≤ i → hash_from h (drop i s) ≡ 5381
  unfolding hash_from readable first
  hash_from_none past = rw drop_of_length-le

pub hash_at_long : (s : List ℕ) (at : ℕ) → limit < length s → hash_at s at ≡ 5381
unfolding hash_at gnu_hash
hash_at_long s at long = simp (lt-ltb limit (length s) long)

module _ (class : Class) (order : Order) (symbols strings : List ℕ) (i : ℕ) where
  pub hash_in_at : (entry : Symbol) → symbol_at class order symbols (symbol_index i) ≡ Ok entry
      → hash_in class order symbols strings i ≡ hash_at strings entry.name
  unfolding hash_in hash_at
  hash_in_at entry there = ap (λ o. gnu_hash (Option.get_or o [])) (name_at class order symbols strings i entry there)

  pub hash_in_none : (r : Refusal) → symbol_at class order symbols (symbol_index i) ≡ Err r
      → hash_in class order symbols strings i ≡ 5381
  unfolding hash_in gnu_hash
  hash_in_none r none_there = ap (λ o. gnu_hash (Option.get_or o [])) (name_none class order symbols strings i r none_there)
