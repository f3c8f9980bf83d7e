-- What the checker's word `accepted` says, rule by rule. Assumes nothing.
--     Rules                      every rule, as a fact
--     whole_none, lowest_none    what it says that a rule is broken nowhere
--     accepted_longest           the number that is given is the longest chain
--     rules                      an accepted table keeps every rule
use Rattle.std.proofs.Common.{ℕ, suc, ◌+◌, ◌-◌, ◌^◌, ◌≤◌, ◌<◌, ◌≡◌, refl, Bool, true, false, not, List, [], ◌∷◌, arith, leb, eqb, pow_pos, leb-true, eqb-true, Ok}
use mathlib.Core.Option.{Option, some, none, some-ne-none}
use Rattle.strings.proofs.Meaning.{false_true}
use Rattle.lookup.specs.Pick.{from, first_of, is_none}
use Rattle.lookup.proofs.Picking.{All, all_map, from_all, none_first_of, first_of_passes, and_left, and_right, not_none}
use Rattle.gnu_table.specs.Table.{GnuTable, hashed}
use Rattle.gnu_rules.specs.Rules.{verdict, longest, gnu_table_check, findings, whole, lowest, power_of_two, base_within, some_bucket, shift_within, enough_values, name_readable, value_is_hash, bloom_bits_set, bucket_right, ends_at_last}

pub record Rules (t : GnuTable) : Type 0 where
  pub base_low : 1 ≤ t.base
  pub base_high : t.base ≤ t.count
  pub blooms : 1 ≤ t.bloom_count
  pub buckets : 1 ≤ t.bucket_count
  pub shift : t.shift ≤ 31
  pub values : t.count - t.base ≤ t.value_count
  pub readable : (i : ℕ) → t.base ≤ i → i < t.count → name_readable t i ≡ true
  pub valued : (i : ℕ) → t.base ≤ i → i < t.count → value_is_hash t i ≡ true
  pub bloomed : (i : ℕ) → t.base ≤ i → i < t.count → bloom_bits_set t i ≡ true
  pub placed : (b : ℕ) → b < t.bucket_count → bucket_right t b ≡ true
  pub ended : (i : ℕ) → t.base ≤ i → i < t.count → ends_at_last t i ≡ true

-- no finding before the end
none_found : (most k n : ℕ) (xs : List (Option ℕ)) → verdict most k xs ≡ Ok n → All (λ o. o ≡ none) xs × (most ≡ n)
unfolding verdict
none_found most k n [] h = (tt, cc)
none_found most k n (none ∷ xs) h = let r = none_found most (suc k) n xs h in ((refl, r.0), r.1)
none_found most k n (some at ∷ xs) h = let r = none_found most k n xs (cc) in ((cc, r.0), r.1)

pub whole_none : (b : Bool) → whole b ≡ none → b ≡ true
whole_none true h = refl
whole_none false h = absurd (some-ne-none 0 h)

pub lowest_none : (g : ℕ → Bool) (a k : ℕ) → lowest g (from a k) ≡ none → (i : ℕ) → a ≤ i → i < a + k → g i ≡ true
lowest_none g a k h i lo hi =
    from_all (λ j. g j ≡ true) a k
    (all_map (λ j e. not_none (g j) e) (from a k) (none_first_of (λ j. not (g j)) (from a k) h)) i lo hi

lowest_hashed : (t : GnuTable) (g : ℕ → Bool) → lowest g (hashed t) ≡ none → (i : ℕ) → t.base ≤ i → i < t.count → g i ≡ true
lowest_hashed t g h i lo hi = lowest_none g t.base (t.count - t.base) h i lo (omega arith)

-- a power of two is at least 1
pub power_low : (n : ℕ) → power_of_two n ≡ true → 1 ≤ n
unfolding power_of_two
power_low n h = go (first_of (λ k. eqb n (2 ^ k)) (from 0 32)) refl h
  where
    go : (o : Option ℕ) → first_of (λ k. eqb n (2 ^ k)) (from 0 32) ≡ o → not (is_none o) ≡ true → 1 ≤ n
    go none e h = false_true h
    go (some k) e h = rw (eqb-true n (2 ^ k) (first_of_passes (λ k. eqb n (2 ^ k)) (from 0 32) k e)) (pow_pos k)

pub accepted_longest : (t : GnuTable) (n : ℕ) → gnu_table_check t ≡ Ok n → longest t ≡ n
accepted_longest t n h = (none_found (longest t) 1 n (findings t) h).1

pub rules : (t : GnuTable) (most : ℕ) → gnu_table_check t ≡ Ok most → Rules t
unfolding findings
rules t most h =
    let n = (none_found (longest t) 1 most (findings t) h).0 in
    let base = whole_none (base_within t) n.0 in
    record {
      base_low = leb-true _ _ (and_left (leb 1 t.base) (leb t.base t.count) base);
      base_high = leb-true _ _ (and_right (leb 1 t.base) (leb t.base t.count) base);
      blooms = power_low t.bloom_count (whole_none (power_of_two t.bloom_count) n.1.0);
      buckets = leb-true _ _ (whole_none (some_bucket t) n.1.1.0);
      shift = leb-true _ _ (whole_none (shift_within t) n.1.1.1.0);
      values = leb-true _ _ (whole_none (enough_values t) n.1.1.1.1.0);
      readable = lowest_hashed t (name_readable t) n.1.1.1.1.1.0;
      valued = lowest_hashed t (value_is_hash t) n.1.1.1.1.1.1.0;
      bloomed = lowest_hashed t (bloom_bits_set t) n.1.1.1.1.1.1.1.0;
      placed = λ b hi. lowest_none (bucket_right t) 0 t.bucket_count n.1.1.1.1.1.1.1.1.0 b (omega arith)
          (omega arith);
      ended = lowest_hashed t (ends_at_last t) n.1.1.1.1.1.1.1.1.1.0;
    }
