-- `gnu_check_buckets::least_misplaced` meets its contract. The invariant: the lesser of the best so far and of what the rest
-- gives is the answer. Assumes nothing.
use Rattle.std.proofs.Common.{◌≡◌, ℕ, ◌%◌, refl, ◌∙◌}
use Rattle.gnu_rules.specs.Rules.{gnu_hash_at, gnu_bucket_of}
use Rattle.gnu_check_hashes.specs.Lent.{table_of}
use Rattle.gnu_check_hashes.specs.declared.table.Table.{Table}
use Rattle.gnu_check_hashes.specs.Names.{hash_in}
use Rattle.gnu_check_buckets.proofs.Turns.{passing_start, passing_next, passing_end}
use Rattle.gnu_check_buckets.proofs.least_misplaced.Goals as goal

-- the bucket that is computed is the definition's
bucket_is : (table : Table) (i : ℕ)
    → hash_in table.class table.order table.symbols.now table.strings.now i % table.layout.bucket_count
    ≡ gnu_bucket_of (table_of table) i
unfolding gnu_hash_at hash_in
bucket_is table i = refl

pub loop-i-init : goal.loop-i-init
loop-i-init c =
    let a = c.args in
    passing_start (table_of a.table)

pub loop-i-preserved : goal.loop-i-preserved
loop-i-preserved c =
    let a = c.args in
    let at = c.loop-i in
    passing_next (table_of a.table)
    at.best at.start at.last at.i at.invariant c.loop-i-test.true
    c.bucket_of-b.result c.run_start-start.result c.lower_wrong-best.result
    (c.bucket_of-b.ensures.0 ∙ bucket_is a.table at.i)
    c.run_start-start.ensures (rw (← c.word_of-held.ensures) c.lower_wrong-best.ensures)

pub returns : goal.returns
returns c =
    let a = c.args in
    let at = c.loop-i in
    passing_end (table_of a.table)
    at.best at.start at.last at.i at.invariant c.loop-i-test.false
