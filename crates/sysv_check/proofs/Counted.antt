-- T3 by one walk along every chain is T3.
-- There: no number stands twice on a chain that comes to 0, nor on the chains of two buckets, since its hash has one; so
-- each number is met at most once, and n - low steps over n - low numbers meet each. Back: each number is met once, so the
-- steps are n - low.
-- Assumes nothing.
use Rattle.std.proofs.Common.{◌≡◌, refl, sym, ap, ◌∙◌, subst, Bool, true, ◌&&◌, true≢false, List, [], ◌∷◌, ◌++◌, Option, Some, None, ℕ, zero, suc, ◌+◌, ◌-◌, ◌≤◌, ◌<◌, arith, mod-lt, leb, ltb, eqb, length, length-append, leb-true, ltb-true, eqb-true, eq-eqb, ne_eqb, le-leb, lt-ltb}
use borrow.Author.Tests.{eqb-false}
use Rattle.lookup.specs.Pick.{from}
use Rattle.lookup.proofs.Picking.{All, all_map, all_from, from_all, by-test, and_left, and_right, test_ext}
use Rattle.sysv.specs.Table.{SysvTable, numbers}
use Rattle.sysv_check.specs.Count.{times}
use Rattle.sysv_check.specs.Rules.{sysv_bucket_of, right, t1, t3, t3_at}
use Rattle.sysv_check.specs.Accepted.{Chain}
use Rattle.sysv_check_chains.specs.Pass.{may_stand, follow, onward, follow_all, spent, all_spent}
use Rattle.sysv_check_chains.specs.Hash.{sysv_hash_at}
use Rattle.sysv_check.proofs.Counting.{sum, sum_single, sum-times, sum_ones, all_ones, all_every, all_append, times-append, times_none, times-all, all-times}
use Rattle.sysv_check.proofs.Chained.{chain_range, no_repeat, chain_whole}
use Rattle.sysv_check.proofs.Ruled.{Shape, shape, placed, right_both}

none_some : (r : ℕ) → ¬ (◌≡◌ {A = Option ℕ} None (Some r))
none_some r h = cc

some_same : (a b : ℕ) → Some a ≡ Some b → a ≡ b
some_same a b h = cc

spent_some : (o : Option ℕ) → spent o ≡ true → o ≡ Some 0
spent_some None h = cc
spent_some (Some k) h = ap (λ x. Some x) (eqb-true k 0 h)

module _ (t : SysvTable) where
  -- the numbers on the chains of these buckets, one after the other
  abbrev together : List ℕ → List ℕ
  together [] = []
  together (b ∷ bs) = numbers t b ++ together bs

  times_together : (j a k : ℕ) → times j (together (from a k)) ≡ sum (λ b. times j (numbers t b)) a k
  times_together j a zero = refl
  times_together j a (suc k) =
      times-append j (numbers t a) (together (from (suc a) k))
      ∙ ap (λ x. times j (numbers t a) + x) (times_together j (suc a) k)

  abbrev all : List ℕ
  all = together (from 0 t.bucket_count)

module _ (t : SysvTable) (low : ℕ) where
  abbrev may : (b i : ℕ) → Bool
  may = may_stand (sysv_bucket_of t) low t.count

  -- the chain of bucket b is as it should be
  record Whole (b : ℕ) : Type 0 where
    path : Chain t.chain_count t.chain (t.bucket b) (numbers t b)
    goods : All (λ x. may b x ≡ true) (numbers t b)

  -- what a walk along one chain says, and along several
  record Followed (b k i r : ℕ) : Type 0 where
    list : List ℕ
    path : Chain t.chain_count t.chain i list
    goods : All (λ x. may b x ≡ true) list
    steps : length list + r ≡ k

  record FollowedAll (bs : List ℕ) (o : Option ℕ) (r : ℕ) : Type 0 where
    k : ℕ
    given : o ≡ Some k
    wholes : All Whole bs
    steps : length (together t bs) + r ≡ k

  may_facts : (b x : ℕ) → may b x ≡ true → (low ≤ x) × (x < t.count) × (sysv_bucket_of t x ≡ b)
  may_facts b x h =
      let rest = and_right (leb low x) (ltb x t.count && eqb (sysv_bucket_of t x) b) h in (
        leb-true low x (and_left (leb low x) (ltb x t.count && eqb (sysv_bucket_of t x) b) h),
        ltb-true x t.count (and_left (ltb x t.count) (eqb (sysv_bucket_of t x) b) rest),
        eqb-true (sysv_bucket_of t x) b (and_right (ltb x t.count) (eqb (sysv_bucket_of t x) b) rest),
      )

  module _ (s : Shape t low) where
    follow_path : (b k i r : ℕ) → follow t.chain (may b) k i ≡ Some r → Followed b k i r
    unfolding follow
    follow_path b zero i r h =
        by-test (eqb i 0)
        (λ e. let z = some_same 0 r (rw e at h) in
        record { list = []; path = eqb-true i 0 e; goods = tt; steps = omega arith })
        (λ e. absurd (none_some r (rw e at h)))
    follow_path b (suc k) i r h =
        by-test (eqb i 0)
        (λ e. let z = some_same (suc k) r (rw e at h) in
        record { list = []; path = eqb-true i 0 e; goods = tt; steps = omega arith })
        (λ e. let ne = eqb-false i 0 e in
        let chains = s.chains in
        by-test (may b i)
        (λ g. let f = follow_path b k (t.chain i) r (rw (e, g) at h) in
        let facts = may_facts b i g in
        record {
          list = i ∷ f.list;
          path = (refl, omega arith, omega (arith, facts.1), f.path);
          goods = (g, f.goods);
          steps = omega (arith, f.steps);
        })
        (λ g. absurd (none_some r (rw (e, g) at h))))

    path_follow : (b k i r : ℕ) (xs : List ℕ) → Chain t.chain_count t.chain i xs → All (λ x. may b x ≡ true) xs
        → length xs + r ≡ k → follow t.chain (may b) k i ≡ Some r
    unfolding follow
    path_follow b zero i r [] p g steps = let z : 0 ≡ r = omega arith in rw (eq-eqb i 0 p) (ap (λ x. Some x) z)
    path_follow b (suc k) i r [] p g steps = let z : suc k ≡ r = omega arith in rw (eq-eqb i 0 p) (ap (λ x. Some x) z)
    path_follow b zero i r (x ∷ xs) p g steps = absurd (omega arith)
    path_follow b (suc k) i r (x ∷ xs) p g steps =
        let ne : ¬ (i ≡ 0) = λ z. omega (arith, p.1) in
        let here : may b i ≡ true = subst (λ y. may b y ≡ true) p.0 g.0 in
        rw (ne_eqb i 0 ne, here) (path_follow b k (t.chain i) r xs p.3 g.1 (omega arith))

    onward_some : (b : ℕ) (o : Option ℕ) (r : ℕ) → onward t.chain t.bucket may b o ≡ Some r
        → (k : ℕ) × (o ≡ Some k) × (follow t.chain (may b) k (t.bucket b) ≡ Some r)
    onward_some b None r h = cc
    onward_some b (Some k) r h = (k, refl, h)

    all_follow : (bs : List ℕ) (o : Option ℕ) (r : ℕ) → follow_all t.chain t.bucket may bs o ≡ Some r
        → FollowedAll bs o r
    unfolding follow_all
    all_follow [] o r h = record { k = r; given = h; wholes = tt; steps = omega arith }
    all_follow (b ∷ bs) o r h =
        let later = all_follow bs (onward t.chain t.bucket may b o) r h in
        let here = onward_some b o later.k later.given in
        let f = follow_path b here.0 (t.bucket b) later.k here.2 in
        let same = (chain_whole t.chain_count t.chain (t.bucket b) f.list f.path).1 in
        let long = length-append (numbers t b) (together t bs) in
        let long' = ap length same in
        record {
          k = here.0;
          given = here.1;
          wholes = (record { path = rw same f.path; goods = rw same f.goods }, later.wholes);
          steps = omega (arith, f.steps, later.steps);
        }

    follow_all_lem : (bs : List ℕ) (k r : ℕ) → All Whole bs → length (together t bs) + r ≡ k
        → follow_all t.chain t.bucket may bs (Some k) ≡ Some r
    unfolding follow_all
    follow_all_lem [] k r w steps = let z : k ≡ r = omega arith in ap (λ x. Some x) z
    follow_all_lem (b ∷ bs) k r w steps =
        let long = length-append (numbers t b) (together t bs) in
        rw (path_follow b k (t.bucket b) (length (together t bs) + r) (numbers t b) w.0.path w.0.goods (omega arith))
        (follow_all_lem bs (length (together t bs) + r) r w.1 refl)

    -- all chains are as they should be
    module _ (wholes : All Whole (from 0 t.bucket_count)) where
      whole_at : (b : ℕ) → b < t.bucket_count → Whole b
      whole_at b hi = from_all Whole 0 t.bucket_count wholes b (omega arith) (omega arith)

      elsewhere : (b i : ℕ) → b < t.bucket_count → ¬ (sysv_bucket_of t i ≡ b) → times i (numbers t b) ≡ 0
      elsewhere b i hb ne =
          times_none i (numbers t b)
          (all_map (λ x g x-is-i. ne (subst (λ y. sysv_bucket_of t y ≡ b) x-is-i (may_facts b x g).2)) (numbers t b)
          (whole_at b hb).goods)

      -- a number stands on all chains together as often as on its own
      own : (i : ℕ) → times i (all t) ≡ times i (numbers t (sysv_bucket_of t i))
      own i =
          let hi = mod-lt (sysv_hash_at t.name i) s.buckets in
          times_together t i 0 t.bucket_count
          ∙ sum_single (λ b. times i (numbers t b)) 0 t.bucket_count (sysv_bucket_of t i) (omega arith) (omega arith)
          (λ b lo' hi' ne. elsewhere b i (omega arith) (λ z. ne (sym z)))

      in_range_lem : (bs : List ℕ) → All Whole bs → All (λ x. (low ≤ x) × (x < low + (t.count - low))) (together t bs)
      in_range_lem [] w = tt
      in_range_lem (b ∷ bs) w =
          all_append (λ x. (low ≤ x) × (x < low + (t.count - low))) (numbers t b) (together t bs)
          (all_map (λ x g. let f = may_facts b x g in let high = s.low_high in (f.0, omega (arith, f.0, f.1)))
          (numbers t b) w.0.goods)
          (in_range_lem bs w.1)

      total : sum (λ i. times i (all t)) low (t.count - low) ≡ length (all t)
      total = sum-times low (t.count - low) (all t) (in_range_lem (from 0 t.bucket_count) wholes)

      -- as many steps as numbers: each number is met once
      module _ (steps : length (all t) ≡ t.count - low) where
        met : (i : ℕ) → low ≤ i → i < t.count → times i (numbers t (sysv_bucket_of t i)) ≡ 1
        met i lo hi =
            sym (own i)
            ∙ all_ones (λ j. times j (all t)) low (t.count - low)
            (λ j lo' hi'. let e = own j in
            let few = no_repeat t.chain_count t.chain (t.bucket (sysv_bucket_of t j)) (numbers t (sysv_bucket_of t j))
            (whole_at (sysv_bucket_of t j) (mod-lt (sysv_hash_at t.name j) s.buckets)).path j in omega arith)
            (total ∙ steps) i lo (omega arith)

        right_at : (b i : ℕ) → b < t.bucket_count → 1 ≤ i → i < t.count → times i (numbers t b) ≡ right t low b i
        right_at b i hb lo hi =
            by-test (leb low i)
            (λ l. by-test (eqb (sysv_bucket_of t i) b)
            (λ e. let same = eqb-true (sysv_bucket_of t i) b e in
            rw (l, e) (subst (λ c. times i (numbers t c) ≡ 1) same (met i (leb-true low i l) hi)))
            (λ e. rw (l, e) (elsewhere b i hb (eqb-false (sysv_bucket_of t i) b e))))
            (λ l. rw l (times_none i (numbers t b)
            (all_map (λ x g x-is-i. true≢false (sym (le-leb low x (may_facts b x g).0) ∙ ap (leb low) x-is-i ∙ l))
            (numbers t b) (whole_at b hb).goods)))

        t3_holds : t3 t low ≡ true
        t3_holds =
            all_every (t3_at t low) (from 0 t.bucket_count)
            (all_from (λ b. t3_at t low b ≡ true) 0 t.bucket_count (λ b lo hi.
            let w = whole_at b (omega arith) in
            rw (chain_whole t.chain_count t.chain (t.bucket b) (numbers t b) w.path).0
            (all_every (λ i. eqb (times i (numbers t b)) (right t low b i)) (from 1 (t.count - 1))
            (all_from _ 1 (t.count - 1) (λ i lo' hi'.
            eq-eqb (times i (numbers t b)) (right t low b i) (right_at b i (omega arith) lo' (omega arith)))))))

    there : all_spent t.chain t.bucket may t.bucket_count (t.count - low) ≡ true → t3 t low ≡ true
    there h =
        let f = all_follow (from 0 t.bucket_count) (Some (t.count - low)) 0
        (spent_some (follow_all t.chain t.bucket may (from 0 t.bucket_count) (Some (t.count - low))) h) in
        let k-is = some_same (t.count - low) f.k f.given in
        t3_holds f.wholes (omega (arith, f.steps))

    module _ (h : t3 t low ≡ true) where
      is_whole : (b : ℕ) → b < t.bucket_count → Whole b
      is_whole b hb =
          let p = placed t low h b hb in
          let chains = s.chains in
          let one-at-least = s.low_low in
          let high = s.low_high in
          record {
            path = p.path;
            goods = all-times (λ x. may b x ≡ true) (numbers t b) (λ x more.
                let range = times-all (λ y. (1 ≤ y) × (y < 1 + (t.chain_count - 1))) x (numbers t b)
                (chain_range t.chain_count t.chain (t.bucket b) (numbers t b) p.path) more in
                let below : x < t.count = omega (arith, range.1) in
                let both = right_both (leb low x) (eqb (sysv_bucket_of t x) b) (times x (numbers t b)) _ more
                (p.often x range.0 below) in
                rw (both.0, lt-ltb x t.count below, both.1));
          }

      all_whole : All Whole (from 0 t.bucket_count)
      all_whole = all_from Whole 0 t.bucket_count (λ b lo hi. is_whole b (omega arith))

      steps_are : length (all t) ≡ t.count - low
      steps_are =
          sym (total all_whole)
          ∙ sum_ones (λ i. times i (all t)) low (t.count - low)
          (λ i lo hi. let one-at-least = s.low_low in
          own all_whole i
          ∙ (placed t low h (sysv_bucket_of t i) (mod-lt (sysv_hash_at t.name i) s.buckets)).often i (omega arith) (omega arith)
          ∙ (rw (le-leb low i lo, eq-eqb (sysv_bucket_of t i) (sysv_bucket_of t i) refl)))

      back : all_spent t.chain t.bucket may t.bucket_count (t.count - low) ≡ true
      back = rw (follow_all_lem (from 0 t.bucket_count) (t.count - low) 0 all_whole (omega (arith, steps_are)))

pub counted : (t : SysvTable) (low : ℕ) → t1 t.bucket_count t.chain_count t.count low ≡ true
    → all_spent t.chain t.bucket (may_stand (sysv_bucket_of t) low t.count) t.bucket_count (t.count - low) ≡ t3 t low
counted t low h =
    test_ext (all_spent t.chain t.bucket (may t low) t.bucket_count (t.count - low)) (t3 t low)
    (there t low (shape t low h)) (back t low (shape t low h))
