-- A part of the strings compared with a name, byte for byte.
--     pointwise_same    what `==` says of two parts
--     pointwise_part    of the part from a place on and a name
--     part_short        a part is no longer than the strings
-- Assumes nothing.
use Rattle.std.proofs.Common.{ℕ, ◌≡◌, ◌+◌, ◌-◌, ◌≤◌, refl, Bool, true, false, cond, ◌&&◌, List, [], ◌∷◌, length, take, drop, eqb, arith, length-take, length-drop}
use Rattle.std.specs.Cmp.Lexicographic.{pointwise}
use Rattle.endian.specs.First.{same}

pub pointwise_same : (s t : List ℕ) → pointwise eqb s t ≡ same s t
pointwise_same [] [] = refl
pointwise_same [] (c ∷ t) = refl
pointwise_same (b ∷ s) [] = refl
pointwise_same (b ∷ s) (c ∷ t) = rw (pointwise_same s t) (by (eqb b c))
  where
    by : (u : Bool) → (u && same s t) ≡ cond u (same s t) false
    by true = refl
    by false = refl

pub pointwise_part : (s t : List ℕ) (start len : ℕ)
    → pointwise eqb (take ((start + len) - start) (drop start s)) t ≡ same (take len (drop start s)) t
pointwise_part s t start len =
    let e : (start + len) - start ≡ len = omega arith in
    rw e (pointwise_same (take len (drop start s)) t)

pub part_short : (s : List ℕ) (start len : ℕ) → length (take len (drop start s)) ≤ length s
part_short s start len = simp (length-take, length-drop) (omega arith)
