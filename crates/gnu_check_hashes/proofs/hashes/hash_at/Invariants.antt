-- `gnu_check_hashes::hashes::hash_at` meets its contract. The invariant: hashing the rest of the string, from h, gives the hash.
-- Assumes nothing.
use Rattle.std.proofs.Common.{◌≡◌, drop}
use Rattle.gnu_check_hashes.specs.Names.{hash_at}
use Rattle.gnu_check_hashes.proofs.Hashing.{hash_from}
use Rattle.gnu_check_hashes.proofs.hashes.hash_at.Given as goal

abbrev pub invariant-loop-b : goal.invariant-loop-b
invariant-loop-b l = hash_from l.h (drop l.b-index l.rest) ≡ hash_at l.strings l.offset
