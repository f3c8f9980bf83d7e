-- The pass for the longest chain, turn by turn: its invariant, and the laws of that.
--     Chaining    at symbol i: where its chain starts, and that the rest gives the answer
--     chaining_start, chaining_next, chaining_end
-- Assumes nothing.
use Rattle.std.proofs.Common.{ℕ, zero, suc, ◌+◌, ◌-◌, ◌≤◌, ◌<◌, max, ◌≡◌, sym, ap, ◌∙◌, cond, map, le_refl, add-one, arith}
use native.Mathlib.Nat.{sub_self}
use Rattle.lookup.specs.Pick.{from, largest}
use Rattle.lookup.proofs.Picking.{by-test}
use Rattle.gnu_table.specs.Table.{odd}
use Rattle.gnu_check_ends.specs.Ends.{chain_start, longest_chain}

module _ (base : ℕ) (value : ℕ → ℕ) (count : ℕ) where
  -- the longest chain of those that symbols from i on are in, as far as these
  abbrev longest_from : ℕ → ℕ
  longest_from i = largest (map (λ i. suc i - chain_start base value (i - base)) (from i (count - i)))

  pub record Chaining (longest start i : ℕ) : Type 0 where
    pub low : base ≤ i
    pub short : longest ≤ count
    pub begun : start ≡ chain_start base value (i - base)
    pub most : max longest (longest_from i) ≡ longest_chain base value count

  chain_start_le : (k : ℕ) → chain_start base value k ≤ base + k
  unfolding chain_start
  chain_start_le zero = omega arith
  chain_start_le (suc k) =
      let rest = chain_start_le k in
      by-test (odd (value k)) (λ e. rw e (le_refl _)) (λ e. rw e (omega arith))

  pub chaining_start : Chaining 0 base base
  unfolding chain_start
  chaining_start =
      record { low = le_refl _; short = omega arith; begun = rw sub_self; most = omega arith }

  module _ (longest start i : ℕ) (so_far : Chaining longest start i) where
    pub chaining_le : start ≤ i
    chaining_le = let le = chain_start_le (i - base) in let low = so_far.low in omega (arith, so_far.begun)

    pub chaining_next : i < count → (longest' start' : ℕ) → longest' ≡ max longest (i + 1 - start)
        → start' ≡ cond (odd (value (i - base))) (i + 1) start → Chaining longest' start' (i + 1)
    unfolding chain_start
    chaining_next more longest' start' chosen next =
        let low = so_far.low in
        let k = i - base in
        let after : i + 1 - base ≡ suc k = omega arith in
        let place : base + suc k ≡ i + 1 = omega arith in
        let one : count - i ≡ suc (count - (i + 1)) = omega arith in
        let here : longest_from i ≡ max (i + 1 - start) (longest_from (i + 1)) = rw (one, ← so_far.begun, add-one i) in
        record {
          low = omega arith;
          short = rw chosen (max_le so_far.short chaining_le more);
          begun = next ∙ rw (after, place, so_far.begun);
          most = rw chosen (assoc longest (i + 1 - start) (longest_from (i + 1)) ∙ ap (max longest) (sym here)
              ∙ so_far.most);
        }
      where
        assoc : (a b c : ℕ) → max (max a b) c ≡ max a (max b c)
        assoc a b c = omega arith

        max_le : longest ≤ count → start ≤ i → i < count → max longest (i + 1 - start) ≤ count
        max_le short le more = omega arith

    pub chaining_end : count ≤ i → longest ≡ longest_chain base value count
    chaining_end past =
        let none_left : count - i ≡ 0 = omega arith in
        let nothing : longest_from i ≡ 0 = rw none_left in
        let same : longest ≡ max longest (longest_from i) = omega arith in
        same ∙ so_far.most
