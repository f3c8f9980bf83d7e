-- Need not be believed: a part of a record of recorded answers. Assumes nothing.
use Rattle.std.specs.Prelude.{ℕ, ◌+◌, cond, leb, List, [], length, take, drop}

-- n bytes from a place on, or none where there are fewer
abbrev pub part_of : List ℕ → (at n : ℕ) → List ℕ
part_of s at n = cond (leb (at + n) (length s)) (take n (drop at s)) []
