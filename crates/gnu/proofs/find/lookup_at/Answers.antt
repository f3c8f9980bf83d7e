-- `gnu::find::lookup_at` meets its contract: the walk is the one over the pairs from the start on. Assumes nothing.
use Rattle.std.proofs.Common.{◌+◌, ◌-◌, ◌≡◌, sym, ap, ◌∙◌, arith, min, true, Ok}
use Rattle.gnu_table.specs.Table.{bloom_filter}
use Rattle.gnu_table.specs.Places.{table_at}
use Rattle.gnu.specs.Walk.{walk_pairs}
use Rattle.gnu.proofs.Finds.{filter_any}
use Rattle.gnu.proofs.Lookups.{lookup_walks}
use Rattle.gnu.proofs.Starts.{some_start}
use Rattle.gnu.proofs.find.lookup_at.Goals as goal

pub returns : goal.returns
unfolding walk_pairs
returns c =
    let a = c.args in
    let table = table_at a.class a.order a.parts.table.now a.layout a.count in
    let filters : bloom_filter table a.hash ≡ Ok true =
    sym (rw c.if-not-branch.false at c.in_ok-bloom_filter.ensures ∙ filter_any a.class a.order a.parts.table.now a.layout a.count a.hash) in
    let v = c.in-Some.start in
    let start = some_start _ v c.in-Some.ensures in
    let walks = lookup_walks table a.hash _ filters v start.0 start.1 in
    let size : v + c.smaller.result - v ≡ min (a.count - v) (a.layout.value_count - (v - a.layout.symbol_base)) =
    omega (arith, c.smaller.ensures) in
    ap Ok c.walk.ensures ∙ rw size (sym walks)
