-- Counting in lists of numbers.
--     every    whether all elements pass a test
--     times    how often a number stands in a list
-- Assumes nothing.
use Rattle.std.specs.Prelude.{ℕ, ◌+◌, Bool, true, cond, ◌&&◌, List, [], ◌∷◌, eqb}

abbrev pub every : (ℕ → Bool) → List ℕ → Bool
every p [] = true
every p (x ∷ xs) = p x && every p xs

abbrev pub times : ℕ → List ℕ → ℕ
times j [] = 0
times j (x ∷ xs) = cond (eqb x j) 1 0 + times j xs
