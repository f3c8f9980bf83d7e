-- Need not be believed: what a comparison byte by byte has seen. Inner contracts cite it.
--     Same        a byte is the one that is wanted, and does not end the string
--     SameFrom    all bytes of the name from one of them on and before another are such
--     Stands      what a yes or no says of all of them
-- Assumes nothing.
use Rattle.std.specs.Prelude.{ℕ, ◌≤◌, ◌<◌, ◌+◌, ◌≡◌, Bool, true, false, List, length, get_or, drop}
use Rattle.name_match.specs.Reads.{reads}

abbrev pub Same : ℕ → ℕ → Type 0
Same found wanted = (found ≡ wanted) × (found ≡ 0 → ⊥)

abbrev pub SameFrom : List ℕ → ℕ → List ℕ → ℕ → ℕ → Type 0
SameFrom s at name i to = (j : ℕ) → i ≤ j → j < to → Same (get_or s (at + j) 0) (get_or name j 0)

abbrev pub Stands : Bool → List ℕ → ℕ → List ℕ → Type 0
Stands r s at name = (r ≡ true → SameFrom s at name 0 (length name)) × (r ≡ false → reads (drop at s) name ≡ false)
