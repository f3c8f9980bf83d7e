-- Need not be believed: the bytes of a lent part. An inner contract cites it. Assumes nothing.
use Rattle.std.specs.Prelude.{ℕ, List}
use Rattle.std.specs.Borrow.{Bor}

abbrev pub now_of : Bor (List ℕ) → List ℕ
now_of part = part.now
