-- `gnu_check_buckets::least_misplaced` meets its contract. The invariant: the lesser of the best so far and of what the rest
-- gives is the answer. Assumes nothing.
use Rattle.gnu_check_hashes.specs.Lent.{table_of}
use Rattle.gnu_check_buckets.proofs.Turns.{Passing}
use Rattle.gnu_check_buckets.proofs.least_misplaced.Given as goal

abbrev pub invariant-loop-i : goal.invariant-loop-i
invariant-loop-i l =
    Passing (table_of l.table) l.best l.start l.last l.i
