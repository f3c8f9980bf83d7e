-- Picking from lists, for both hash tables.
--     from        k numbers from a on, in order
--     select      the elements that pass a test, in order
--     first_of    the first element that passes a test, or none
--     up_to       the front of a list up to and with the first element that passes, or the whole list
--     largest     the largest element, or 0
--     is_none     whether nothing is there
-- Assumes nothing.
use Rattle.std.specs.Prelude.{ℕ, zero, suc, max, Bool, true, false, cond}
use mathlib.Core.List.{List, [], ◌∷◌, foldr}
use Rattle.std.proofs.Math.Option.{Option, some, none}

abbrev pub from : ℕ → ℕ → List ℕ
from a zero = []
from a (suc k) = a ∷ from (suc a) k

module _ {A : Type 0} (p : A → Bool) where
  abbrev pub select : List A → List A
  select [] = []
  select (x ∷ xs) = cond (p x) (x ∷ select xs) (select xs)

  abbrev pub first_of : List A → Option A
  first_of [] = none
  first_of (x ∷ xs) = cond (p x) (some x) (first_of xs)

  abbrev pub up_to : List A → List A
  up_to [] = []
  up_to (x ∷ xs) = x ∷ cond (p x) [] (up_to xs)

abbrev pub largest : List ℕ → ℕ
largest xs = foldr max 0 xs

abbrev pub is_none {ℓ} : {A : Type ℓ} → Option A → Bool
is_none none = true
is_none (some a) = false
