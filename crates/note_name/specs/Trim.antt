-- A note's name without its trailing zeros (01, module 4).
--     trimmed_length    the length without the zeros at the end
--     trimmed_of        the front part of that length
-- Assumes nothing.
use Rattle.std.specs.Prelude.{ℕ, suc, cond, List, [], ◌∷◌, eqb, take}

unfoldable pub trimmed_length : List ℕ → ℕ
trimmed_length [] = 0
trimmed_length (b ∷ s) = cond (eqb (trimmed_length s) 0) (cond (eqb b 0) 0 1) (suc (trimmed_length s))

abbrev pub trimmed_of : List ℕ → List ℕ
trimmed_of name = take (trimmed_length name) name
