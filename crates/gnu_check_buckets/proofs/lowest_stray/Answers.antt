-- `gnu_check_buckets::lowest_stray` meets its contract: `find` answers the first stray bucket. Assumes nothing.
use Rattle.std.proofs.Common.{rules}
use Rattle.gnu_check_hashes.specs.Lent.{table_of}
use Rattle.gnu_check_buckets.specs.Runs.{stray}
use Rattle.lookup.proofs.Searching.{first_found}
use Rattle.gnu_check_buckets.proofs.lowest_stray.Goals as goal

pub returns : goal.returns
returns c =
    first_found _ _ _ _ (stray (table_of c.args.table)) c.find.ensures.ran
    (λ x b q called. (search rules, search rules))
