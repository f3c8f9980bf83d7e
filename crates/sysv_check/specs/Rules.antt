-- The rules of the SysV checker, over a table as numbers and functions (01, "SysV checker"). `low` is the first symbol that
-- must be found.
--     first_global        that symbol: 1
--     sysv_bucket_of      the bucket of a symbol, by the hash of its name
--     ends                whether a chain comes to 0
--     t1, t2, t3          the rules
--     sysv_table_check    the first that is broken, or accepted
-- Assumes nothing.
use Rattle.std.specs.Prelude.{ℕ, zero, suc, ◌-◌, ◌%◌, Bool, true, cond, not, ◌&&◌, leb, ltb, eqb, Result, Ok, Err}
use Rattle.lookup.specs.Pick.{from, is_none}
use Rattle.sysv.specs.Table.{SysvTable, numbers}
use Rattle.sysv_check_chains.specs.Hash.{sysv_hash_at}
use Rattle.sysv_check.specs.declared.table.Fault.{Fault}
use Rattle.sysv_check.specs.declared.table.Fault.TheVariants.{Broken}
use Rattle.sysv_check.specs.Count.{every, times}

abbrev pub first_global : ℕ
first_global = 1

-- from number i on, in at most k steps, by numbers below chain_count
unfoldable pub ends : (chain_count : ℕ) → (chain : ℕ → ℕ) → (k i : ℕ) → Bool
ends chain_count chain zero i = eqb i 0
ends chain_count chain (suc k) i = cond (eqb i 0) true (ltb i chain_count && ends chain_count chain k (chain i))

-- T1: n >= 1, that is, low is between 1 and n; chain_count = n; bucket_count >= 1
abbrev pub t1 : (bucket_count chain_count n low : ℕ) → Bool
t1 bucket_count chain_count n low = leb 1 low && (leb low n && (eqb chain_count n && leb 1 bucket_count))

module _ (t : SysvTable) where
  abbrev pub sysv_bucket_of : ℕ → ℕ
  sysv_bucket_of i = sysv_hash_at t.name i % t.bucket_count

  module _ (low : ℕ) where
    -- T2: the names of low to n - 1 readable
    abbrev pub t2 : Bool
    t2 = every (λ i. not (is_none (t.name i))) (from low (t.count - low))

    -- how often number i stands on the chain of bucket b: once, if it is a symbol from low on and that is the bucket of its hash
    abbrev pub right : (b i : ℕ) → ℕ
    right b i = cond (leb low i && eqb (sysv_bucket_of i) b) 1 0

    -- T3: each chain ends in 0; each number 1 to n - 1 stands there as often as is right
    abbrev pub t3_at : (b : ℕ) → Bool
    t3_at b =
        ends t.chain_count t.chain t.chain_count (t.bucket b)
        && every (λ i. eqb (times i (numbers t b)) (right b i)) (from 1 (t.count - 1))

    abbrev pub t3 : Bool
    t3 = every t3_at (from 0 t.bucket_count)

    abbrev pub sysv_table_check : Result (Unit {0}) Fault
    sysv_table_check =
        cond (not (t1 t.bucket_count t.chain_count t.count low)) (Err (Broken 1))
        (cond (not t2) (Err (Broken 2)) (cond (not t3) (Err (Broken 3)) (Ok tt)))
