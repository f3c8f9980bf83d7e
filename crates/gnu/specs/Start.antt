-- Need not be believed: where the walk of a hash starts, as an inner function answers it: none in place of 0. Assumes nothing.
use Rattle.std.specs.Prelude.{ℕ, cond, eqb, Option, Some, None}

abbrev pub start_answer : (start : ℕ) → Option ℕ
start_answer start = cond (eqb start 0) None (Some start)
