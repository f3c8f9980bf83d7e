-- What `accepted` says, rule by rule.
--     Shape, shape      T1
--     Placed, placed    T3 at a bucket: its chain comes to 0, and each number stands there as often as is right
--     Ruled, rules      all of them
--     right_both        why a number stands on a chain, by how often it does
-- Assumes nothing.
use Rattle.std.proofs.Common.{◌≡◌, refl, Bool, true, false, cond, not, ◌&&◌, ℕ, ◌-◌, ◌≤◌, ◌<◌, arith, leb, eqb, leb-true, eqb-true, Result, Ok, Err}
use Rattle.lookup.specs.Pick.{from, is_none}
use Rattle.lookup.proofs.Picking.{from_all, and_left, and_right}
use Rattle.sysv.specs.Table.{SysvTable, numbers}
use Rattle.sysv_check.specs.declared.table.Fault.{Fault}
use Rattle.sysv_check.specs.declared.table.Fault.TheVariants.{Broken}
use Rattle.sysv_check.specs.Count.{every, times}
use Rattle.sysv_check.specs.Rules.{ends, right, t1, t2, t3, t3_at, sysv_table_check}
use Rattle.sysv_check.specs.Accepted.{Chain}
use Rattle.sysv_check.proofs.Counting.{every_all}
use Rattle.sysv_check.proofs.Chained.{ends_chain}

module _ (t : SysvTable) (low : ℕ) where
  pub record Shape : Type 0 where
    pub low_low : 1 ≤ low
    pub low_high : low ≤ t.count
    pub chains : t.chain_count ≡ t.count
    pub buckets : 1 ≤ t.bucket_count

  pub shape : t1 t.bucket_count t.chain_count t.count low ≡ true → Shape
  shape h =
      let rest = eqb t.chain_count t.count && leb 1 t.bucket_count in
      let h0 = and_right (leb 1 low) (leb low t.count && rest) h in
      let h1 = and_right (leb low t.count) rest h0 in
      record {
        low_low = leb-true 1 low (and_left (leb 1 low) (leb low t.count && rest) h);
        low_high = leb-true low t.count (and_left (leb low t.count) rest h0);
        chains = eqb-true t.chain_count t.count (and_left (eqb t.chain_count t.count) (leb 1 t.bucket_count) h1);
        buckets = leb-true 1 t.bucket_count (and_right (eqb t.chain_count t.count) (leb 1 t.bucket_count) h1);
      }

  pub record Placed (b : ℕ) : Type 0 where
    pub path : Chain t.chain_count t.chain (t.bucket b) (numbers t b)
    pub often : (i : ℕ) → 1 ≤ i → i < t.count → times i (numbers t b) ≡ right t low b i

  pub placed : t3 t low ≡ true → (b : ℕ) → b < t.bucket_count → Placed b
  placed h b hi =
      let here = from_all (λ c. t3_at t low c ≡ true) 0 t.bucket_count
      (every_all (t3_at t low) (from 0 t.bucket_count) h) b (omega arith) (omega arith) in
      let p : ℕ → Bool = λ i. eqb (times i (numbers t b)) (right t low b i) in
      let e = ends t.chain_count t.chain t.chain_count (t.bucket b) in
      let each = and_right e (every p (from 1 (t.count - 1))) here in
      record {
        path = ends_chain t.chain_count t.chain t.chain_count (t.bucket b)
            (and_left e (every p (from 1 (t.count - 1))) here);
        often = λ i lo hi'.
            eqb-true (times i (numbers t b)) (right t low b i)
            (from_all (λ j. p j ≡ true) 1 (t.count - 1) (every_all p (from 1 (t.count - 1)) each) i lo (omega arith));
      }

  pub record Ruled : Type 0 where
    pub shaped : Shape
    pub readable : (i : ℕ) → low ≤ i → i < t.count → not (is_none (t.name i)) ≡ true
    pub each : (b : ℕ) → b < t.bucket_count → Placed b

-- what stands somewhere at least once is right there
pub right_both : (b c : Bool) (k often : ℕ) → 0 < k → k ≡ cond (b && c) often 0 → (b ≡ true) × (c ≡ true)
right_both true true k often more h = (refl, refl)
right_both true false k often more h = absurd (omega arith)
right_both false c k often more h = absurd (omega arith)

none_broken : (a b c : Bool)
    → cond {A = Result (Unit {0}) Fault} (not a) (Err (Broken 1)) (cond (not b) (Err (Broken 2)) (cond (not c) (Err (Broken 3)) (Ok tt))) ≡ Ok tt
    → (a ≡ true) × (b ≡ true) × (c ≡ true)
none_broken true true true h = (refl, refl, refl)
none_broken true true false h = (cc, cc, cc)
none_broken true false c h = (cc, cc, cc)
none_broken false b c h = (cc, cc, cc)

pub rules : (t : SysvTable) (low : ℕ) → sysv_table_check t low ≡ Ok tt → Ruled t low
rules t low h =
    let n = none_broken (t1 t.bucket_count t.chain_count t.count low) (t2 t low) (t3 t low) h in
    record {
      shaped = shape t low n.0;
      readable = λ i lo hi.
          from_all (λ j. not (is_none (t.name j)) ≡ true) low (t.count - low)
          (every_all (λ j. not (is_none (t.name j))) (from low (t.count - low)) n.1) i lo (omega arith);
      each = placed t low n.2;
    }
