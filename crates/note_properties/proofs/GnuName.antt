-- A name held against `GNU`. Assumes nothing.
--     pointwise_same    the library's test of two slices is ours of two lists
use Rattle.std.proofs.Common.{ℕ, ◌≡◌, refl, Bool, true, false, cond, ◌&&◌, List, [], ◌∷◌, eqb}
use lib.Pointwise.{pointwise}
use Rattle.endian.specs.First.{same}

pub pointwise_same : (s t : List ℕ) → pointwise eqb s t ≡ same s t
pointwise_same [] [] = refl
pointwise_same [] (c ∷ t) = refl
pointwise_same (b ∷ s) [] = refl
pointwise_same (b ∷ s) (c ∷ t) = by (eqb b c) (pointwise_same s t)
  where
    by : (u : Bool) → pointwise eqb s t ≡ same s t → (u && pointwise eqb s t) ≡ cond u (same s t) false
    by true rest = rest
    by false rest = refl
