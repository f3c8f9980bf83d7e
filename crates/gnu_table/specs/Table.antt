-- A GNU hash table over its symbols, as numbers and functions, and what its bloom filter says.
-- Source: the published GNU hash convention; 01, "Lookups", for what it leaves open.
--     GnuTable                     the table, its symbols' names and how many symbols there are
--     bit, odd, same_but_low       a bit of a word; the low bit; equal but for the low bit
--     hashed, value_of             the hashed symbols; the value that belongs to one
--     bloom_first, bloom_second    the two tests of the bloom filter
--     bloom_filter                 whether the bloom filter lets a hash pass
-- Assumes nothing.
use Rattle.std.specs.Prelude.{ℕ, ◌-◌, ◌/◌, ◌%◌, ◌^◌, Bool, true, false, cond, not, List, ltb, eqb, Result, Ok, Err}
use Rattle.std.proofs.Math.Option.{Option}
use Rattle.std.specs.Int.Bits.{bit_and}
use Rattle.endian.specs.declared.refusals.Refusal.{Refusal}
use Rattle.endian.specs.Refusals.{bad_bloom_shift}
use Rattle.lookup.specs.Pick.{from}

pub record GnuTable : Type 0 where
  -- the header: bucket_count, symbol_base, bloom_count, bloom_shift
  pub bucket_count : ℕ
  pub base : ℕ
  pub bloom_count : ℕ
  pub shift : ℕ
  -- the bits of a bloom word, 32 or 64; the words by place
  pub width : ℕ
  pub bloom : ℕ → ℕ
  -- the buckets by place; the values by place, and how many there are
  pub bucket : ℕ → ℕ
  pub value : ℕ → ℕ
  pub value_count : ℕ
  -- how many symbols there are, and the name of each, if it can be read
  pub count : ℕ
  pub name : ℕ → Option (List ℕ)

-- bit k of a word is 1
abbrev pub bit : ℕ → ℕ → Bool
bit word k = eqb (word / 2 ^ k % 2) 1

abbrev pub odd : ℕ → Bool
odd n = eqb (n % 2) 1

-- equal with the low bit of each set to 1
abbrev pub same_but_low : ℕ → ℕ → Bool
same_but_low a b = eqb (a / 2) (b / 2)

module _ (t : GnuTable) where
  -- the hashed symbols: symbol_base to n - 1
  abbrev pub hashed : List ℕ
  hashed = from t.base (t.count - t.base)

  -- the value that belongs to a symbol
  abbrev pub value_of : ℕ → ℕ
  value_of i = t.value (i - t.base)

  -- word (hash / W) AND (bloom_count - 1)
  abbrev pub bloom_word : ℕ → ℕ
  bloom_word h = t.bloom (bit_and (h / t.width) (t.bloom_count - 1))

  unfoldable pub bloom_first : ℕ → Bool
  bloom_first h = bit (bloom_word h) (h % t.width)

  unfoldable pub bloom_second : ℕ → Bool
  bloom_second h = bit (bloom_word h) (h / 2 ^ t.shift % t.width)

-- no bloom words, a bit unset, a shift above 31 where the second bit is reached (30), or both bits set
unfoldable pub bloom_filter : GnuTable → ℕ → Result Bool Refusal
bloom_filter t h =
    cond (eqb t.bloom_count 0) (Ok false)
    (cond (not (bloom_first t h)) (Ok false)
    (cond (ltb 31 t.shift) (Err bad_bloom_shift)
    (cond (not (bloom_second t h)) (Ok false) (Ok true))))
