-- Need not be believed: the first number from a on and below e that passes a test, if there is one. Contracts of the checkers'
-- passes cite it.
--     answered      what may be there, as a function answers it
--     first_from    that number
-- Assumes nothing.
use Rattle.std.specs.Prelude.{ℕ, ◌-◌, Bool, Option, Some, None}
use Rattle.std.proofs.Math.Option as Math
use Rattle.lookup.specs.Pick.{from, first_of}

abbrev pub answered : Math.Option ℕ → Option ℕ
answered Math.none = None
answered (Math.some i) = Some i

unfoldable pub first_from : (ℕ → Bool) → (a e : ℕ) → Option ℕ
first_from p a e = answered (first_of p (from a (e - a)))
