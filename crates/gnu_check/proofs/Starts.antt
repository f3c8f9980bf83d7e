-- A bucket keeps G9 exactly if it holds 0 or the start of a run of its own, and the bucket of each of its symbols holds the
-- start of its run.
--     Start, start_of               where the run of a symbol starts, and that `run_start` says so; a run has one start
--     plain_begins, plain_stray     a symbol is the first of a run of a bucket; a bucket holds neither 0 nor such a symbol
--     begins_start, start_begins    what `plain_begins` decides
--     Right                         what the passes ask of a bucket
--     right_kept, kept_right        it is G9
-- Assumes nothing.
use Rattle.std.proofs.Common.{◌≡◌, refl, sym, ap, ◌∙◌, subst, subst₂, Bool, true, false, not, ◌&&◌, ◌||◌, ⊎_elim, List, [], ◌∷◌, ℕ, zero, suc, ◌+◌, ◌-◌, ◌≤◌, ◌<◌, arith, le_refl, eq-or-lt_of_le, leb, ltb, eqb, length, leb-true, ltb-true, eqb-true, eq-eqb, ne_eqb, le-leb, lt-ltb}
use mathlib.Core.Bool.{false≢true, and-false}
use borrow.Author.Tests.{eqb-false}
use Rattle.lookup.specs.Pick.{from, select}
use Rattle.gnu_table.specs.Table.{GnuTable}
use Rattle.gnu_rules.specs.Rules.{gnu_bucket_of, in_bucket, members, holds, bucket_right}
use Rattle.gnu_check_buckets.specs.Runs.{run_start}
use Rattle.gnu_rules.proofs.Members.{holds_run, run_holds, all_members, no_member, inside, outside}
use Rattle.lookup.proofs.Picking.{All, all_from, from-append, select-append, select_none, select_front, by-test, and_left, and_right, not_none}

module _ (t : GnuTable) where
  -- s is where the run of bucket b that holds symbol i starts
  pub record Start (b s i : ℕ) : Type 0 where
    pub low : t.base ≤ s
    pub high : s ≤ i
    pub same : (j : ℕ) → s ≤ j → j ≤ i → gnu_bucket_of t j ≡ b
    pub first_one : t.base < s → gnu_bucket_of t (s - 1) ≡ b → ⊥

  -- a run has one start
  pub start_unique : (b s s' i : ℕ) → Start b s i → Start b s' i → s ≡ s'
  start_unique b s s' i p q =
      let later : ¬ (s < s') = λ h. q.first_one (omega arith) (p.same (s' - 1) (omega arith) (omega arith)) in
      let earlier : ¬ (s' < s) = λ h. p.first_one (omega arith) (q.same (s - 1) (omega arith) (omega arith)) in
      omega arith

  run_start_lem : (k : ℕ) → Start (gnu_bucket_of t (t.base + k)) (run_start t k) (t.base + k)
  unfolding run_start
  run_start_lem zero =
      record {
        low = le_refl t.base;
        high = omega arith;
        same = λ j lo hi. let z : j ≡ t.base + 0 = omega arith in ap (gnu_bucket_of t) z;
        first_one = λ more. absurd (omega arith);
      }
  run_start_lem (suc k) =
      by-test (eqb (gnu_bucket_of t (t.base + k)) (gnu_bucket_of t (t.base + suc k)))
      (λ e. let r = run_start_lem k in let step = eqb-true _ _ e in
      rw e (record {
        low = r.low;
        high = omega (arith, r.high);
        same = λ j lo hi. ⊎_elim (λ z. ap (gnu_bucket_of t) z) (λ less. r.same j lo (omega arith) ∙ step) (eq-or-lt_of_le hi);
        first_one = λ more h. r.first_one more (h ∙ sym step);
      }))
      (λ e. rw e (record {
        low = omega arith;
        high = le_refl _;
        same = λ j lo hi. let z : j ≡ t.base + suc k = omega arith in ap (gnu_bucket_of t) z;
        first_one = λ more h. let z : t.base + suc k - 1
            ≡ t.base + k = omega arith in eqb-false _ _ e (sym (ap (gnu_bucket_of t) z) ∙ h);
      }))

  pub start_of : (i : ℕ) → t.base ≤ i → Start (gnu_bucket_of t i) (run_start t (i - t.base)) i
  start_of i lo = let z : t.base + (i - t.base) ≡ i = omega arith in rw z at (run_start_lem (i - t.base))

  abbrev pub plain_begins : ℕ → ℕ → Bool
  plain_begins b v = (leb t.base v && ltb v t.count) && (in_bucket t b v && (eqb v t.base || not (in_bucket t b (v - 1))))

  unfoldable pub plain_stray : ℕ → Bool
  plain_stray b = not (eqb (t.bucket b) 0) && not (plain_begins b (t.bucket b))

  -- what the pass asks of bucket b
  pub record Right (b : ℕ) : Type 0 where
    pub own : plain_stray b ≡ false
    pub placed : (i : ℕ) → t.base ≤ i → i < t.count → gnu_bucket_of t i ≡ b → t.bucket b ≡ run_start t (i - t.base)

  pub begins_start : (b v : ℕ) → plain_begins b v ≡ true → Start b v v × (v < t.count)
  begins_start b v h =
      let range = and_left (leb t.base v && ltb v t.count)
      (in_bucket t b v && (eqb v t.base || not (in_bucket t b (v - 1)))) h in
      let rest = and_right (leb t.base v && ltb v t.count)
      (in_bucket t b v && (eqb v t.base || not (in_bucket t b (v - 1)))) h in
      let mine = eqb-true (gnu_bucket_of t v) b
      (and_left (in_bucket t b v) (eqb v t.base || not (in_bucket t b (v - 1))) rest) in
      let before = and_right (in_bucket t b v) (eqb v t.base || not (in_bucket t b (v - 1))) rest in (
        record {
          low = leb-true _ _ (and_left (leb t.base v) (ltb v t.count) range);
          high = le_refl v;
          same = λ j lo hi. let z : j ≡ v = omega arith in ap (gnu_bucket_of t) z ∙ mine;
          first_one = λ more h'. absurd (false≢true (rw (ne_eqb v t.base (omega arith), eq-eqb _ _ h') at before));
        },
        ltb-true _ _ (and_right (leb t.base v) (ltb v t.count) range),
      )

  pub start_begins : (b v : ℕ) → Start b v v → v < t.count → plain_begins b v ≡ true
  start_begins b v r hi =
      rw (le-leb t.base v r.low, lt-ltb v t.count hi, eq-eqb _ _ (r.same v (le_refl v) (le_refl v)))
      (by-test (eqb v t.base) (λ e. rw e)
      (λ e. let apart = eqb-false v t.base e in let low = r.low in rw (e, ne_eqb _ _ (r.first_one (omega arith)))))

  -- the symbols of a bucket that has any are a run from its value on
  the_run : (b : ℕ) → Right b → (m : ℕ) → t.base ≤ m → m < t.count → gnu_bucket_of t m ≡ b
      → members t b ≡ from (t.bucket b) (length (members t b))
  the_run b r m lo hi mine =
      let v = t.bucket b in
      let start : Start b v m = subst₂ (λ x s. Start x s m) mine (sym (r.placed m lo hi mine)) (start_of m lo) in
      let low = start.low in
      let high = start.high in
      let below : select (in_bucket t b) (from t.base (v - t.base)) ≡ [] =
      select_none (in_bucket t b) (from t.base (v - t.base))
      (all_from (λ i. in_bucket t b i ≡ false) t.base (v - t.base)
      (λ i lo' hi'. by-test (in_bucket t b i)
      (λ h. let p = r.placed i lo' (omega arith) (eqb-true _ _ h) in let s = (start_of i lo').high in absurd (omega arith))
      (λ h. h))) in
      let above : select (in_bucket t b) (from v (t.count - v))
      ≡ from v (length (select (in_bucket t b) (from v (t.count - v)))) =
      select_front (in_bucket t b) v (t.count - v)
      (λ i j lo' mid hi' h.
      let p = r.placed i (omega arith) (omega arith) (eqb-true _ _ h) in
      eq-eqb _ _ ((start_of i (omega arith)).same j (omega arith) mid ∙ eqb-true _ _ h)) in
      let parts : t.count - t.base ≡ (v - t.base) + (t.count - v) = omega arith in
      let seam : t.base + (v - t.base) ≡ v = omega arith in
      let whole : members t b ≡ select (in_bucket t b) (from v (t.count - v)) =
      rw (parts, from-append, seam, select-append, below) in
      rw whole above

  pub right_kept : (b : ℕ) → Right b → bucket_right t b ≡ true
  unfolding plain_stray
  right_kept b r = go (members t b) refl
    where
      v : ℕ
      v = t.bucket b

      go : (ms : List ℕ) → members t b ≡ ms → holds v ms ≡ true
      go [] e =
          by-test (eqb v 0) (λ z. z)
          (λ apart. let own = r.own in
          let start = begins_start b v (not_none (plain_begins b v) (rw apart at own)) in
          absurd (no_member t b e v start.0.low start.1 (eq-eqb _ _ (start.0.same v (le_refl v) (le_refl v)))))
      go (m ∷ ms) e =
          let one = (subst (All _) e (all_members t b)).0 in
          let run = the_run b r m one.0.0 one.0.1 (eqb-true _ _ one.1) in
          run_holds v m ms (rw e at run)

  pub kept_right : (b : ℕ) → bucket_right t b ≡ true → Right b
  unfolding plain_stray
  kept_right b h = go (members t b) refl h
    where
      v : ℕ
      v = t.bucket b

      go : (ms : List ℕ) → members t b ≡ ms → holds v ms ≡ true → Right b
      go [] e h =
          record {
            own = rw (h);
            placed = λ i lo hi mine. absurd (no_member t b e i lo hi (eq-eqb _ _ mine));
          }
      go (m ∷ ms) e h =
          let run = e ∙ holds_run v m ms h in
          let first_of : (i : ℕ) → v ≤ i → i < v + suc (length ms) → Start b v i = λ i lo hi.
          record {
            low = (inside t b v (length ms) run v (le_refl v) (omega arith)).0.0;
            high = lo;
            same = λ j lo' hi'. eqb-true _ _ (inside t b v (length ms) run j lo' (omega arith)).1;
            first_one = λ more h'.
                let o = outside t b v (length ms) run (v - 1) (omega arith)
                (omega (arith, (inside t b v (length ms) run v (le_refl v) (omega arith)).0)) (eq-eqb _ _ h') in
                omega arith;
          } in
          let begun = start_begins b v (first_of v (le_refl v) (omega arith))
          (inside t b v (length ms) run v (le_refl v) (omega arith)).0.1 in
          record {
            own = rw (begun, and-false);
            placed = λ i lo hi mine.
                let o = outside t b v (length ms) run i lo hi (eq-eqb _ _ mine) in
                start_unique b v (run_start t (i - t.base)) i (first_of i o.0 o.1) (rw mine at (start_of i lo));
          }
