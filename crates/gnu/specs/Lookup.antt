-- What a lookup in a GNU table gives (01, "Lookups").
--     pairs, gnu_chain    the pairs from a symbol on; those up to the chain's end
--     start_of            where the walk of a hash starts, or 0
--     walk_at             the walk from there
--     gnu_lookup          what a lookup gives
-- Assumes nothing.
use Rattle.std.specs.Prelude.{ℕ, ◌-◌, ◌%◌, min, Bool, true, false, cond, not, ◌&&◌, List, leb, eqb, Result, Ok, Err}
use Rattle.endian.specs.declared.refusals.Refusal.{Refusal}
use Rattle.lookup.specs.declared.Lookup.{Lookup}
use Rattle.lookup.specs.Pick.{from, up_to}
use Rattle.lookup.specs.Wanted.{missing, walk}
use Rattle.gnu_table.specs.Table.{GnuTable, odd, same_but_low, value_of, bloom_filter}

module _ (t : GnuTable) where
  -- symbol and value pairs from symbol s on, by their symbols: as many as both have
  abbrev pub pairs : ℕ → List ℕ
  pairs s = from s (min (t.count - s) (t.value_count - (s - t.base)))

  -- a low bit of 1 ends the chain
  abbrev pub gnu_chain : ℕ → List ℕ
  gnu_chain s = up_to (λ i. odd (value_of t i)) (pairs s)

  -- a bucket value at which a walk starts: not 0, not past the symbols, not below symbol_base, not past the values
  abbrev pub starts : ℕ → Bool
  starts s = not (eqb s 0) && (leb s t.count && (leb t.base s && leb (s - t.base) t.value_count))

-- the symbol at which the walk starts: the bucket's value, or 0 where there is no bucket or no walk starts there
unfoldable pub start_of : GnuTable → ℕ → ℕ
start_of t h =
    cond (eqb t.bucket_count 0) 0
    (cond (starts t (t.bucket (h % t.bucket_count))) (t.bucket (h % t.bucket_count)) 0)

-- the walk from a symbol on, or nothing from 0; `wanted i`: symbol i has the name and the version that are asked for
abbrev pub walk_at : GnuTable → ℕ → (ℕ → Bool) → ℕ → Lookup
walk_at t h wanted s = cond (eqb s 0) (missing 0) (walk (λ i. same_but_low (value_of t i) h && wanted i) (gnu_chain t s))

abbrev pub filtered : Result Bool Refusal → Lookup → Result Lookup Refusal
filtered (Ok false) answer = Ok (missing 0)
filtered (Err r) answer = Err r
filtered (Ok true) answer = Ok answer

-- the lookup of a hash
unfoldable pub gnu_lookup : GnuTable → ℕ → (ℕ → Bool) → Result Lookup Refusal
gnu_lookup t h wanted = filtered (bloom_filter t h) (walk_at t h wanted (start_of t h))
