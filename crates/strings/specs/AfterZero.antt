-- Need not be believed: the place after the last zero byte, or 0. An inner contract cites it. Assumes nothing.
use Rattle.std.specs.Prelude.{ℕ, suc, cond, List, [], ◌∷◌, ltb}
use Rattle.endian.specs.First.{is_zero}

-- exactly a string that starts below it has a zero
unfoldable pub after_zero : List ℕ → ℕ
after_zero [] = 0
after_zero (b ∷ s) = cond (ltb 0 (after_zero s)) (suc (after_zero s)) (cond (is_zero b) 1 0)
