-- `gnu_check_buckets::lowest_wrong_bucket` meets its contract: the lower of both passes' answers. Assumes nothing.
use Rattle.std.proofs.Common.{◌∙◌, eq-eqb, ne_eqb}
use Rattle.gnu_check_buckets.specs.Runs.{wrong_bucket}
use Rattle.gnu_check_buckets.proofs.lowest_wrong_bucket.Goals as goal

pub returns-then-table-eq0 : goal.returns-then-table-eq0
unfolding wrong_bucket
returns-then-table-eq0 c = rw (eq-eqb _ 0 c.if-table-eq0.true)

pub returns : goal.returns
unfolding wrong_bucket
returns c = rw (ne_eqb _ 0 c.if-table-eq0.false, ← c.lowest_stray.ensures, ← c.least_misplaced.ensures) c.lesser.ensures
