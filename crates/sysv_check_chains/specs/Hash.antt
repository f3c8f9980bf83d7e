-- The SysV hash of a symbol's name, of the names by number; of one that cannot be read, that of the empty name (T2 is broken
-- there). Assumes nothing.
use Rattle.std.specs.Prelude.{ℕ, List, []}
use Rattle.std.proofs.Math.Option.{Option, get_or}
use Rattle.name_hash.specs.Hash.{sysv_hash}

unfoldable pub sysv_hash_at : (name : ℕ → Option (List ℕ)) → ℕ → ℕ
sysv_hash_at name i = sysv_hash (get_or (name i) [])
