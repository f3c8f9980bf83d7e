-- Need not be believed: the GNU hash of a symbol's name, as the checker's passes ask for it. That it is `gnu_hash_at` is proved
-- where they are.
--     hash_at    the hash of the string at an offset; of one that cannot be read, that of the empty name
--     hash_in    the hash of a symbol's name
-- Assumes nothing.
use Rattle.std.specs.Prelude.{ℕ, List, []}
use Rattle.std.proofs.Math.Option.{get_or}
use Rattle.endian.specs.declared.kinds.Class.{Class}
use Rattle.endian.specs.declared.kinds.Order.{Order}
use Rattle.strings.specs.Strings.{string_at}
use Rattle.name_hash.specs.Hash.{gnu_hash}
use Rattle.lookup.specs.Wanted.{name_of, bytes_of}

unfoldable pub hash_at : (strings : List ℕ) → (offset : ℕ) → ℕ
hash_at strings offset = gnu_hash (get_or (bytes_of strings (string_at strings offset)) [])

unfoldable pub hash_in : Class → Order → (symbols strings : List ℕ) → ℕ → ℕ
hash_in class order symbols strings i = gnu_hash (get_or (name_of class order symbols strings i) [])
