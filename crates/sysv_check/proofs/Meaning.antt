-- T3 is what specs/Meaning says.
--     t3_is    the theorem: both ways
-- Assumes nothing.
use Rattle.std.proofs.Common.{◌≡◌, ◌∙◌, true, List, ℕ, ◌-◌, ◌≤◌, ◌<◌, arith, leb, eqb, leb-true, leb-false, le-leb, eqb-true, eq-eqb, ne_eqb}
use borrow.Author.Tests.{lt-leb, eqb-false}
use Rattle.lookup.specs.Pick.{from}
use Rattle.lookup.proofs.Picking.{all_from, by-test}
use Rattle.sysv.specs.Table.{SysvTable, numbers}
use Rattle.sysv_check.specs.Count.{times}
use Rattle.sysv_check.specs.Rules.{sysv_bucket_of, right, t3, t3_at}
use Rattle.sysv_check.specs.Meaning.{Holds, T3Means}
use Rattle.sysv_check.proofs.Counting.{all_every}
use Rattle.sysv_check.proofs.Chained.{chain_whole}
use Rattle.sysv_check.proofs.Ruled.{placed}

module _ (t : SysvTable) (low : ℕ) where
  t3_means : 1 ≤ low → low ≤ t.count → t3 t low ≡ true → (b : ℕ) → b < t.bucket_count → Holds t low b
  t3_means one-low high h b hb =
      let p = placed t low h b hb in
      record {
        list = numbers t b;
        comes_to_zero = p.path;
        once = λ i lo hi e. p.often i (omega arith) hi ∙ (rw (le-leb low i lo, eq-eqb (sysv_bucket_of t i) b e));
        no_other = λ i lo hi ne. p.often i (omega arith) hi ∙ (rw (le-leb low i lo, ne_eqb (sysv_bucket_of t i) b ne));
        none_lower = λ i lo hi. p.often i lo (omega arith) ∙ (rw (lt-leb low i hi));
      }

  right_is : (xs : List ℕ) (b i : ℕ) → (low ≤ i → sysv_bucket_of t i ≡ b → times i xs ≡ 1)
      → (low ≤ i → ¬ (sysv_bucket_of t i ≡ b) → times i xs ≡ 0) → (i < low → times i xs ≡ 0) → times i xs ≡ right t low b i
  right_is xs b i once other lower =
      by-test (leb low i)
      (λ l. by-test (eqb (sysv_bucket_of t i) b)
      (λ e. rw (l, e) (once (leb-true low i l) (eqb-true (sysv_bucket_of t i) b e)))
      (λ e. rw (l, e) (other (leb-true low i l) (eqb-false (sysv_bucket_of t i) b e))))
      (λ l. rw l (lower (leb-false low i l)))

  means_t3 : ((b : ℕ) → b < t.bucket_count → Holds t low b) → t3 t low ≡ true
  means_t3 holds =
      all_every (t3_at t low) (from 0 t.bucket_count)
      (all_from (λ b. t3_at t low b ≡ true) 0 t.bucket_count (λ b lo hi.
      let c = holds b (omega arith) in
      let whole = chain_whole t.chain_count t.chain (t.bucket b) c.list c.comes_to_zero in
      rw whole.0
      (all_every (λ i. eqb (times i (numbers t b)) (right t low b i)) (from 1 (t.count - 1))
      (all_from _ 1 (t.count - 1) (λ i lo' hi'. eq-eqb (times i (numbers t b)) (right t low b i)
      (rw whole.1 (right_is c.list b i
      (λ l e. c.once i l (omega arith) e) (λ l ne. c.no_other i l (omega arith) ne) (λ l. c.none_lower i lo' l))))))))

pub t3_is : T3Means
t3_is t low one-low high = (t3_means t low one-low high, means_t3 t low)
