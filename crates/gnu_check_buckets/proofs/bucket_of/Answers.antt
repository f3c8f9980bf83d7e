-- `gnu_check_buckets::bucket_of` meets its contract. Assumes nothing.
use Rattle.std.proofs.Common.{mod-lt}
use Rattle.gnu_check_buckets.proofs.bucket_of.Goals as goal

pub returns : goal.returns
returns c = (rw c.symbol_hash.ensures, mod-lt c.symbol_hash.result c.requires)
