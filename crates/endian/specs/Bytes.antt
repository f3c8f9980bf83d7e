-- Need not be believed: every element of a list is a byte. An inner contract cites it. Assumes nothing.
use Rattle.std.specs.Prelude.{ℕ, ◌<◌, List, get_or}

abbrev pub Bytes : List ℕ → Type 0
Bytes s = (i : ℕ) → get_or s i 0 < 256
