-- Need not be believed: bytes that were read at a place. An inner contract cites it. Assumes nothing.
--     BytesAt    they are n, each the one at its place, or 0 past the end
use Rattle.std.specs.Prelude.{ℕ, ◌≡◌, ◌+◌, ◌<◌, List, length, get_or}

abbrev pub BytesAt : (n : ℕ) (s : List ℕ) (at : ℕ) (bytes : List ℕ) → Type 0
BytesAt n s at bytes = (length bytes ≡ n) × ((i : ℕ) → i < n → get_or bytes i 0 ≡ get_or s (at + i) 0)
