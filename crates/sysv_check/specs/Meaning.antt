-- T3 in plain words, without a bound on steps: each chain is a list of numbers that comes to 0, and in that of bucket b
-- number i stands once, if it is a symbol from low on with a hash of that bucket, and else not.
--     Holds      that, of the chain of a bucket
--     T3Means    the theorem: T3 is that of every bucket; `t3_is` in proofs/Meaning proves it
-- Assumes nothing.
use Rattle.std.specs.Prelude.{ℕ, ◌≤◌, ◌<◌, ◌≡◌, true, List, ◌↔◌}
use Rattle.sysv.specs.Table.{SysvTable}
use Rattle.sysv_check.specs.Count.{times}
use Rattle.sysv_check.specs.Rules.{sysv_bucket_of, t3}
use Rattle.sysv_check.specs.Accepted.{Chain}

module _ (t : SysvTable) (low : ℕ) where
  pub record Holds (b : ℕ) : Type 0 where
    pub list : List ℕ
    pub comes_to_zero : Chain t.chain_count t.chain (t.bucket b) list
    pub once : (i : ℕ) → low ≤ i → i < t.count → sysv_bucket_of t i ≡ b → times i list ≡ 1
    pub no_other : (i : ℕ) → low ≤ i → i < t.count → ¬ (sysv_bucket_of t i ≡ b) → times i list ≡ 0
    pub none_lower : (i : ℕ) → 1 ≤ i → i < low → times i list ≡ 0

abbrev pub T3Means : Type 0
T3Means = (t : SysvTable) (low : ℕ) → 1 ≤ low → low ≤ t.count
    → (t3 t low ≡ true) ↔ ((b : ℕ) → b < t.bucket_count → Holds t low b)
