-- The GNU checker (01, "GNU checker"): n symbols, hashed ones symbol_base to n - 1.
--     gnu_hash_at, gnu_bucket_of, members    the hash of a symbol's name, its bucket, the hashed symbols of a bucket
--     base_within                            G1
--     power_of_two                           G2
--     some_bucket                            G3
--     shift_within                           G4
--     enough_values                          G5
--     name_readable                          G6, of a symbol
--     value_is_hash                          G7, of a symbol
--     bloom_bits_set                         G8, of a symbol
--     bucket_right                           G9, of a bucket
--     ends_at_last                           G10, of a symbol
--     findings                               where each rule is broken, in order
--     longest                                the longest chain
--     gnu_table_check                        what the checker gives of a table
--     gnu_check                              the same of the bytes: part too long (1), the table's places (26 to 28), then the rules
-- Assumes nothing.
use Rattle.std.specs.Prelude.{ℕ, suc, ◌-◌, ◌%◌, ◌^◌, Bool, cond, not, ◌&&◌, List, [], ◌∷◌, map, leb, eqb, length, Result, Ok, Err}
use Rattle.std.specs.Bool.{beq}
use Rattle.std.proofs.Math.Option.{Option, some, none, get_or}
use Rattle.endian.specs.declared.kinds.Class.{Class}
use Rattle.endian.specs.declared.kinds.Order.{Order}
use Rattle.endian.specs.Refusals.{any_long, too_long, unless_refused}
use Rattle.endian.specs.First.{same}
use Rattle.name_hash.specs.Hash.{gnu_hash}
use Rattle.lookup.specs.Pick.{from, select, first_of, largest, is_none}
use Rattle.gnu_table.specs.Table.{GnuTable, hashed, value_of, odd, same_but_low, bloom_first, bloom_second}
use Rattle.gnu_table.specs.Layout.{gnu_table_of}
use Rattle.gnu_table.specs.Header.{gnu_fault}
use Rattle.gnu_rules.specs.declared.Fault.{Fault}
use Rattle.gnu_rules.specs.declared.Fault.TheVariants.{Broken, Refused}

module _ (t : GnuTable) where
  -- the hash of a symbol's name; of one that cannot be read, that of the empty name (G6 is broken there)
  unfoldable pub gnu_hash_at : ℕ → ℕ
  gnu_hash_at i = gnu_hash (get_or (t.name i) [])

  abbrev pub gnu_bucket_of : ℕ → ℕ
  gnu_bucket_of i = gnu_hash_at i % t.bucket_count

  abbrev pub in_bucket : ℕ → ℕ → Bool
  in_bucket b i = eqb (gnu_bucket_of i) b

  -- the hashed symbols of a bucket, in order
  abbrev pub members : ℕ → List ℕ
  members b = select (in_bucket b) (hashed t)

  -- G1: 1 <= symbol_base <= n
  abbrev pub base_within : Bool
  base_within = leb 1 t.base && leb t.base t.count

-- G2, of bloom_count: one of 2 ^ 0 to 2 ^ 31, since a count has 32 bits
unfoldable pub power_of_two : ℕ → Bool
power_of_two n = not (is_none (first_of (λ k. eqb n (2 ^ k)) (from 0 32)))

-- what a bucket of these symbols holds: 0 if it has no symbol, else its lowest; and its symbols are consecutive
abbrev pub holds : ℕ → List ℕ → Bool
holds v [] = eqb v 0
holds v (m ∷ ms) = eqb v m && same (m ∷ ms) (from m (length (m ∷ ms)))

module _ (t : GnuTable) where
  -- G3: bucket_count >= 1
  abbrev pub some_bucket : Bool
  some_bucket = leb 1 t.bucket_count

  -- G4: shift <= 31
  abbrev pub shift_within : Bool
  shift_within = leb t.shift 31

  -- G5: at least n - symbol_base values
  abbrev pub enough_values : Bool
  enough_values = leb (t.count - t.base) t.value_count

  -- G6: hashed names readable
  abbrev pub name_readable : ℕ → Bool
  name_readable i = not (is_none (t.name i))

  -- G7: value equals the name's hash but for the low bit
  abbrev pub value_is_hash : ℕ → Bool
  value_is_hash i = same_but_low (value_of t i) (gnu_hash_at t i)

  -- G8: both bloom bits set
  abbrev pub bloom_bits_set : ℕ → Bool
  bloom_bits_set i = bloom_first t (gnu_hash_at t i) && bloom_second t (gnu_hash_at t i)

  -- G9: each bucket holds 0 if it has no symbol, else its lowest, and its symbols are consecutive
  abbrev pub bucket_right : ℕ → Bool
  bucket_right b = holds (t.bucket b) (members t b)

  -- no later symbol is of the same bucket
  unfoldable pub is_last : ℕ → Bool
  is_last i = is_none (first_of (in_bucket t (gnu_bucket_of t i)) (from (suc i) (t.count - suc i)))

  -- G10: low bit 1 exactly at a bucket's last symbol
  abbrev pub ends_at_last : ℕ → Bool
  ends_at_last i = beq (odd (value_of t i)) (is_last i)

-- where a rule is broken: one of the whole table at 0, the others at the lowest place where they fail
abbrev pub whole : Bool → Option ℕ
whole kept = cond kept none (some 0)

abbrev pub lowest : (ℕ → Bool) → List ℕ → Option ℕ
lowest kept places = first_of (λ i. not (kept i)) places

unfoldable pub findings : GnuTable → List (Option ℕ)
findings t =
    whole (base_within t) ∷
    whole (power_of_two t.bloom_count) ∷
    whole (some_bucket t) ∷
    whole (shift_within t) ∷
    whole (enough_values t) ∷
    lowest (name_readable t) (hashed t) ∷
    lowest (value_is_hash t) (hashed t) ∷
    lowest (bloom_bits_set t) (hashed t) ∷
    lowest (bucket_right t) (from 0 t.bucket_count) ∷
    lowest (ends_at_last t) (hashed t) ∷
    []

-- most hashed symbols in one bucket, or 0
unfoldable pub longest : GnuTable → ℕ
longest t = largest (map (λ b. length (members t b)) (from 0 t.bucket_count))

-- of the findings from rule k on: the first broken rule with its place; where none is, accepted with the longest chain
unfoldable pub verdict : (most k : ℕ) → List (Option ℕ) → Result ℕ Fault
verdict most k [] = Ok most
verdict most k (none ∷ rest) = verdict most (suc k) rest
verdict most k (some place ∷ rest) = Err (Broken k place)

abbrev pub gnu_table_check : GnuTable → Result ℕ Fault
gnu_table_check t = verdict (longest t) 1 (findings t)

unfoldable pub gnu_check : Class → Order → (table symbols strings : List ℕ) → Result ℕ Fault
gnu_check class order table symbols strings =
    cond (any_long (table ∷ symbols ∷ strings ∷ [])) (Err (Refused too_long))
    (unless_refused (λ r. Err (Refused r)) (gnu_fault class order table) (gnu_table_check (gnu_table_of class order table symbols strings)))
