-- In a table that keeps the rules, a lookup by the name's own hash finds the lowest symbol that is wanted. The bucket of
-- the hash holds exactly the symbols v, v + 1, .., v + k (G9), and the chain from v ends at v + k (G10): the chain is the
-- bucket. A wanted symbol is in that bucket, its value compares equal (G7) and its bloom bits are set (G8).
-- Assumes nothing.
use Rattle.std.proofs.Common.{ℕ, suc, ◌+◌, ◌-◌, ◌%◌, ◌≤◌, ◌<◌, min, ◌≡◌, refl, sym, ap, ◌∙◌, Bool, true, false, cond, ◌&&◌, List, [], ◌∷◌, arith, mod-lt, length, eqb-true, eq-eqb, ne_eqb, le-leb, le-ltb, Result, Ok}
use mathlib.Core.Option.{some, none}
use Rattle.endian.specs.declared.refusals.Refusal.{Refusal}
use Rattle.name_hash.specs.Hash.{gnu_hash}
use Rattle.lookup.specs.declared.Lookup.{Lookup}
use Rattle.lookup.specs.Pick.{from, first_of, up_to}
use Rattle.lookup.specs.Wanted.{missing, answer_after, walk}
use Rattle.lookup.proofs.Picking.{all_map, all_from, all-select, first_of_none, first_of_select, first_of_cong, length_up_to, up_to_from, largest-le, by-test, and_left, and_right, beq_eq, test_ext}
use Rattle.gnu_table.specs.Table.{GnuTable, hashed, value_of, odd, same_but_low, bloom_first, bloom_second, bloom_filter}
use Rattle.gnu.specs.Lookup.{gnu_chain, starts, start_of, walk_at, gnu_lookup}
use Rattle.gnu_rules.specs.Rules.{gnu_hash_at, in_bucket, members, holds, longest}
use Rattle.gnu_rules.proofs.Kept.{Rules}
use Rattle.gnu_rules.proofs.Members.{holds_run, inside, last, not_last}

-- the lookup answers the first wanted symbol of the hashed ones, after few probes
pub record FindsLowest (t : GnuTable) (wanted : ℕ → Bool) (a : Result Lookup Refusal) : Type 0 where
  pub probes : ℕ
  pub answer : a ≡ Ok (answer_after (first_of wanted (hashed t)) probes)
  pub few : probes ≤ longest t

module _ (t : GnuTable) (r : Rules t) where
  -- the chain of a bucket that has symbols
  module _ (b v k : ℕ) (run : members t b ≡ from v (suc k)) where
    chain_is : gnu_chain t v ≡ from v (suc k)
    chain_is =
        let end = inside t b v k run (v + k) (omega arith) (omega arith) in
        let start = inside t b v k run v (omega arith) (omega arith) in
        let values = r.values in
        let m = t.count - v - suc k in
        let whole : min (t.count - v) (t.value_count - (v - t.base)) ≡ suc (k + m) = omega arith in
        rw whole
        (up_to_from (λ i. odd (value_of t i)) v k m
        (λ i lo hi. beq_eq _ _ (r.ended i (inside t b v k run i lo (omega arith)).0.0
        (inside t b v k run i lo (omega arith)).0.1) ∙ not_last t b v k run i lo hi)
        (beq_eq _ _ (r.ended (v + k) end.0.0 end.0.1) ∙ last t b v k run))

    starts_is : starts t v ≡ true
    starts_is =
        let start = inside t b v k run v (omega arith) (omega arith) in
        let low = r.base_low in
        let values = r.values in
        rw (
          ne_eqb v 0 (omega arith),
          le-leb v t.count (omega arith),
          le-leb t.base v (omega arith),
          le-leb (v - t.base) t.value_count (omega arith),
        )

  module _ (name : List ℕ) (wanted : ℕ → Bool) (named : (i : ℕ) → wanted i ≡ true → t.name i ≡ some name) where
    hash_is : (i : ℕ) → wanted i ≡ true → gnu_hash_at t i ≡ gnu_hash name
    unfolding gnu_hash_at
    hash_is i h = rw (named i h)

    in_bucket_lem : (i : ℕ) → wanted i ≡ true → in_bucket t (gnu_hash name % t.bucket_count) i ≡ true
    in_bucket_lem i h = eq-eqb _ _ (ap (λ x. x % t.bucket_count) (hash_is i h))

    -- a test that every hashed symbol passes, and the name does not: nothing is wanted
    none_wanted : (test : ℕ → Bool) → ((i : ℕ) → t.base ≤ i → i < t.count → test (gnu_hash_at t i) ≡ true)
        → test (gnu_hash name) ≡ false
        → first_of wanted (hashed t) ≡ none
    none_wanted test all_pass fails =
        first_of_none wanted (hashed t)
        (all_from (λ i. wanted i ≡ false) t.base (t.count - t.base)
        (λ i lo hi. by-test (wanted i) (λ h. let pass = all_pass i lo (omega arith) in let same = hash_is i h in cc)
        (λ h. h)))

    -- the bucket's symbols in order hold the first wanted one
    first_member : first_of wanted (members t (gnu_hash name % t.bucket_count)) ≡ first_of wanted (hashed t)
    first_member =
        first_of_select wanted (in_bucket t (gnu_hash name % t.bucket_count)) (hashed t)
        (all_from _ t.base (t.count - t.base) (λ i lo hi. in_bucket_lem i))

    -- the pairs that a walk tests: the value and the wanted test
    abbrev tested : ℕ → Bool
    tested i = same_but_low (value_of t i) (gnu_hash name) && wanted i

    tested_is : (i : ℕ) → t.base ≤ i → i < t.count → tested i ≡ wanted i
    tested_is i lo hi =
        test_ext (tested i) (wanted i) (and_right (same_but_low (value_of t i) (gnu_hash name)) (wanted i))
        (λ h. let e : same_but_low (value_of t i) (gnu_hash name) ≡ true = rw (hash_is i h) at (r.valued i lo hi) in rw e h)

    nothing : first_of wanted (hashed t) ≡ none → FindsLowest t wanted (Ok (missing 0))
    nothing h = record { probes = 0; answer = rw h; few = omega arith }

    walk_is : (b : ℕ) → b < t.bucket_count → first_of wanted (members t b) ≡ first_of wanted (hashed t)
        → FindsLowest t wanted (Ok (walk tested (members t b)))
    unfolding longest
    walk_is b hb same =
        record {
          probes = length (up_to tested (members t b));
          answer =
              ap (λ o. Ok (answer_after o (length (up_to tested (members t b)))))
              (first_of_cong tested wanted (members t b)
              (all_map (λ i h. h.0) (members t b)
              (all-select (in_bucket t b) (λ i. tested i ≡ wanted i) (hashed t)
              (all_from _ t.base (t.count - t.base) (λ i lo hi. tested_is i lo (omega arith))))) ∙ same);
          few =
              let read = length_up_to tested (members t b) in
              let most = largest-le (λ x. length (members t x)) 0 t.bucket_count b (omega arith) (omega arith) in
              omega arith;
        }

    -- by what the bucket of the hash has
    bucket_is : FindsLowest t wanted (Ok (walk_at t (gnu_hash name) wanted (start_of t (gnu_hash name))))
    unfolding start_of
    bucket_is =
        let buckets = r.buckets in
        rw (ne_eqb t.bucket_count 0 (omega arith)) (go (members t b) refl (r.placed b b_low))
      where
        b : ℕ
        b = gnu_hash name % t.bucket_count

        b_low : b < t.bucket_count
        b_low = mod-lt (gnu_hash name) r.buckets

        go : (ms : List ℕ) → members t b ≡ ms → holds (t.bucket b) ms ≡ true
            → FindsLowest t wanted (Ok (walk_at t (gnu_hash name) wanted (cond (starts t (t.bucket b)) (t.bucket b) 0)))
        go [] none_there h =
            rw (eq-eqb (t.bucket b) 0 (eqb-true (t.bucket b) 0 h))
            (nothing (sym first_member ∙ ap (first_of wanted) none_there))
        go (m ∷ ms) there h =
            let run = there ∙ holds_run (t.bucket b) m ms h in
            let start = inside t b (t.bucket b) (length ms) run (t.bucket b) (omega arith) (omega arith) in
            let low = r.base_low in
            rw (
              starts_is b (t.bucket b) (length ms) run,
              ne_eqb (t.bucket b) 0 (omega arith),
              chain_is b (t.bucket b) (length ms) run ∙ sym run,
            )
            (walk_is b b_low first_member)

    pub finds_lowest : FindsLowest t wanted (gnu_lookup t (gnu_hash name) wanted)
    unfolding gnu_lookup bloom_filter
    finds_lowest =
        let blooms = r.blooms in
        rw (ne_eqb t.bloom_count 0 (omega arith), le-ltb 31 t.shift r.shift)
        (by-test (bloom_first t (gnu_hash name))
        (λ one. by-test (bloom_second t (gnu_hash name))
        (λ two. rw (one, two) bucket_is)
        (λ unset. rw (one, unset) (nothing (none_wanted (bloom_second t)
        (λ i lo hi. and_right (bloom_first t (gnu_hash_at t i)) (bloom_second t (gnu_hash_at t i)) (r.bloomed i lo hi)) unset))))
        (λ unset. rw unset (nothing (none_wanted (bloom_first t)
        (λ i lo hi. and_left (bloom_first t (gnu_hash_at t i)) (bloom_second t (gnu_hash_at t i)) (r.bloomed i lo hi)) unset))))
