-- Need not be believed: whether the string at the front of bytes is a name. Inner contracts cite it.
--     text     what stands before the first zero
--     reads    whether a zero is there, and what stands before it is the name
-- Assumes nothing.
use Rattle.std.specs.Prelude.{ℕ, Bool, ◌&&◌, List, take}
use Rattle.endian.specs.First.{first, is_zero, readable, same}

unfoldable pub text : List ℕ → List ℕ
text rest = take (first is_zero rest) rest

unfoldable pub reads : List ℕ → List ℕ → Bool
reads rest name = readable rest && same (text rest) name
