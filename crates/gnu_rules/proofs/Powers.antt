-- The library's test for a power of two, by the bits of a number of 32 bits, is G2's.
--     power_is    that
-- Assumes nothing.
use lib.Count.{ones_step}
use Rattle.std.proofs.Common.{◌≡◌, ℕ, zero, suc, ◌+◌, ◌*◌, ◌/◌, ◌%◌, ◌^◌, ◌≤◌, ◌<◌, Bool, true, false, not, ◌==◌, eqb, count_ones, refl, sym, ap, ◌∙◌, arith, pow-suc, eqb-true, eq-eqb}
use Rattle.std.proofs.Math.Option.{Option, some, none}
use Rattle.std.proofs.lemmas.Nat.{zero_from_ones, ones_le_self}
use borrow.Author.Tests.{eqb-false}
use Rattle.strings.proofs.Meaning.{false_true}
use Rattle.lookup.specs.Pick.{from, first_of, is_none}
use Rattle.lookup.proofs.Picking.{by-test, from_all, none_first_of, first_of_passes, test_ext}
use Rattle.gnu_rules.specs.Rules.{power_of_two}

-- a number with one bit is a power
one_bit : (k n : ℕ) → n < 2 ^ k → count_ones n ≡ 1 → (j : ℕ) × (j < k) × (n ≡ 2 ^ j)
one_bit zero n small one = let few = ones_le_self n in absurd (omega arith)
one_bit (suc k) n small one =
    let step = ones_step n in
    let size = pow-suc 2 k in
    by-test (eqb (n % 2) 0)
    (λ e. let even = eqb-true (n % 2) 0 e in
    let r = one_bit k (n / 2) (omega arith) (omega arith) in
    let next = pow-suc 2 r.0 in
    (suc r.0, omega (arith, r.1), omega (arith, r.2)))
    (λ e. let odd = eqb-false (n % 2) 0 e in
    let rest = zero_from_ones (n / 2) (omega arith) in
    (0, omega arith, omega arith))

-- a power has one bit
power_ones : (j : ℕ) → count_ones (2 ^ j) ≡ 1
power_ones zero = let step = ones_step 1 in let few = ones_le_self 0 in omega arith
power_ones (suc j) =
    let step = ones_step (2 ^ suc j) in
    let size = pow-suc 2 j in
    let half : 2 ^ suc j / 2 ≡ 2 ^ j = omega arith in
    let rest : count_ones (2 ^ suc j / 2) ≡ 1 = rw half (power_ones j) in
    omega arith

module _ (n : ℕ) where
  abbrev is_power : ℕ → Bool
  is_power k = eqb n (2 ^ k)

  found : (j : ℕ) → j < 32 → n ≡ 2 ^ j → power_of_two n ≡ true
  unfolding power_of_two
  found j low same = go (first_of is_power (from 0 32)) refl
    where
      go : (o : Option ℕ) → first_of is_power (from 0 32) ≡ o → not (is_none o) ≡ true
      go none e =
          false_true (sym (from_all (λ k. is_power k ≡ false) 0 32 (none_first_of is_power (from 0 32) e) j (omega arith) (omega arith))
          ∙ eq-eqb n (2 ^ j) same)
      go (some k) e = refl

  has_one : power_of_two n ≡ true → count_ones n ≡ 1
  unfolding power_of_two
  has_one h = go (first_of is_power (from 0 32)) refl h
    where
      go : (o : Option ℕ) → first_of is_power (from 0 32) ≡ o → not (is_none o) ≡ true → count_ones n ≡ 1
      go none e h = false_true h
      go (some k) e h = ap count_ones (eqb-true n (2 ^ k) (first_of_passes is_power (from 0 32) k e)) ∙ power_ones k

  pub power_is : n < 2 ^ 32 → (count_ones n == 1) ≡ power_of_two n
  power_is small =
      test_ext (count_ones n == 1) (power_of_two n)
      (λ h. let r = one_bit 32 n small (eqb-true (count_ones n) 1 h) in found r.0 r.1 r.2)
      (λ h. eq-eqb (count_ones n) 1 (has_one h))
