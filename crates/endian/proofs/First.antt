-- A loop that looks for the first element that p accepts: of the elements from i on.
--     first_here    element i is it
--     first_next    element i is not
--     first_end     there is none from i on
-- Assumes nothing.
use Rattle.std.proofs.Common.{ℕ, suc, ◌+◌, ◌<◌, ◌≤◌, ◌≡◌, sym, Bool, true, false, List, add-one, length, get_or, drop, drop_of_length-le, drop-cons}
use Rattle.endian.specs.First.{first}

module _ (p : ℕ → Bool) (s : List ℕ) (i : ℕ) where
  pub first_here : i < length s → p (get_or s i 0) ≡ true → first p (drop i s) ≡ 0
  unfolding first
  first_here more hit = rw (drop-cons s i 0, hit)

  pub first_next : i < length s → p (get_or s i 0) ≡ false → first p (drop i s) ≡ first p (drop (i + 1) s) + 1
  unfolding first
  first_next more miss = rw (drop-cons s i 0, miss, add-one i) (sym (add-one (first p (drop (suc i) s))))

  pub first_end : length s ≤ i → first p (drop i s) ≡ 0
  unfolding first
  first_end none = rw drop_of_length-le
