-- Need not be believed: where the first zero byte from a place on stands. An inner contract cites it. Assumes nothing.
use Rattle.std.specs.Prelude.{ℕ, ◌+◌, List, drop}
use Rattle.endian.specs.First.{first, is_zero}

-- the length where there is none, and the place itself where it is past the end
abbrev pub first_zero : List ℕ → ℕ → ℕ
first_zero s from = from + first is_zero (drop from s)
