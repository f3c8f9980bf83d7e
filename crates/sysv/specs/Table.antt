-- A SysV hash table over its symbols, as numbers and functions, and what a lookup gives.
-- Source: the gABI, "Hash Table"; 01, "Lookups", for what it leaves open.
--     SysvTable      the table, its symbols' names and how many symbols there are
--     visited        the numbers that a walk tests if nothing matches: at most k of them, from a number on
--     numbers        those of a bucket
--     sysv_lookup    what a lookup gives
-- Assumes nothing.
use Rattle.std.specs.Prelude.{ℕ, zero, suc, ◌%◌, Bool, cond, List, [], ◌∷◌, ltb, eqb}
use Rattle.std.proofs.Math.Option.{Option}
use Rattle.lookup.specs.declared.Lookup.{Lookup}
use Rattle.lookup.specs.Wanted.{missing, walk}

pub record SysvTable : Type 0 where
  -- the header: bucket_count, chain_count
  pub bucket_count : ℕ
  pub chain_count : ℕ
  -- the buckets and the chains, by place
  pub bucket : ℕ → ℕ
  pub chain : ℕ → ℕ
  -- how many symbols there are, and the name of each, if it can be read
  pub count : ℕ
  pub name : ℕ → Option (List ℕ)

-- 0 is never tested; a number at or past chain_count is, and is the last
unfoldable pub visited : (chain_count : ℕ) → (chain : ℕ → ℕ) → (k i : ℕ) → List ℕ
visited chain_count chain zero i = []
visited chain_count chain (suc k) i =
    cond (eqb i 0) [] (i ∷ cond (ltb i chain_count) (visited chain_count chain k (chain i)) [])

-- at most chain_count tests
abbrev pub numbers : SysvTable → (bucket : ℕ) → List ℕ
numbers t b = visited t.chain_count t.chain t.chain_count (t.bucket b)

-- the lookup of a hash; `wanted i`: symbol i has the name and the version that are asked for
unfoldable pub sysv_lookup : SysvTable → ℕ → (ℕ → Bool) → Lookup
sysv_lookup t h wanted = cond (eqb t.bucket_count 0) (missing 0) (walk wanted (numbers t (h % t.bucket_count)))
