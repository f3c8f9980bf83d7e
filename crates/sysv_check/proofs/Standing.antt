-- The chains of a table that keeps the rules: what stands on them.
--     on_chain    a symbol from low on
--     stands      every symbol from low on with a name, on the chain of its hash
-- Assumes nothing.
use Rattle.std.proofs.Common.{ℕ, ◌+◌, ◌-◌, ◌%◌, ◌≤◌, ◌<◌, ◌≡◌, ap, ◌∙◌, List, [], arith, mod-lt, leb, eqb, leb-true, eq-eqb, le-leb}
use mathlib.Core.Option.{Option, some, get_or}
use Rattle.name_hash.specs.Hash.{sysv_hash}
use Rattle.sysv.specs.Table.{SysvTable, numbers}
use Rattle.sysv_check.specs.Count.{times}
use Rattle.sysv_check_chains.specs.Hash.{sysv_hash_at}
use Rattle.sysv_check.specs.Rules.{sysv_bucket_of}
use Rattle.sysv_check.proofs.Counting.{times-all}
use Rattle.sysv_check.proofs.Chained.{chain_range}
use Rattle.sysv_check.proofs.Ruled.{Ruled, right_both}

module _ (t : SysvTable) (low : ℕ) (r : Ruled t low) where
  pub on_chain : (b : ℕ) → b < t.bucket_count → (i : ℕ) → 0 < times i (numbers t b) → (low ≤ i) × (i < t.count)
  on_chain b hb i more =
      let here = r.each b hb in
      let range = times-all (λ x. (1 ≤ x) × (x < 1 + (t.chain_count - 1))) i (numbers t b)
      (chain_range t.chain_count t.chain (t.bucket b) (numbers t b) here.path) more in
      let chains = r.shaped.chains in
      let one-at-least = r.shaped.low_low in
      let high = r.shaped.low_high in
      let below : i < t.count = omega (arith, range.1) in (
        leb-true low i (right_both (leb low i) (eqb (sysv_bucket_of t i) b) (times i (numbers t b)) _ more
            (here.often i range.0 below)).0,
        below,
      )

  hashed : (name : List ℕ) (i : ℕ) → t.name i ≡ some name → sysv_hash_at t.name i ≡ sysv_hash name
  unfolding sysv_hash_at
  hashed name i named = ap (λ (o : Option (List ℕ)). sysv_hash (get_or o [])) named

  pub stands : (name : List ℕ) (i : ℕ) → low ≤ i → i < t.count → t.name i ≡ some name
      → times i (numbers t (sysv_hash name % t.bucket_count)) ≡ 1
  stands name i lo hi named =
      let one-at-least = r.shaped.low_low in
      let home = sysv_hash name % t.bucket_count in
      (r.each home (mod-lt (sysv_hash name) r.shaped.buckets)).often i (omega arith) hi
      ∙ (rw (le-leb low i lo, eq-eqb (sysv_bucket_of t i) home (ap (λ x. x % t.bucket_count) (hashed name i named))))
