-- `gnu_check_ends::lowest_wrong_end` meets its contract: `find` answers the first symbol whose low bit is wrong. Assumes nothing.
use Rattle.std.proofs.Common.{◌≡◌, not, ap, ◌∙◌, option_map, rules, eq-eqb, ne_eqb}
use Rattle.symbol.specs.Table.{symbol_index}
use Rattle.gnu_check_hashes.specs.Lent.{table_of}
use Rattle.gnu_check_ends.specs.Ends.{ends_run, wrong_end}
use Rattle.lookup.proofs.Searching.{first_found}
use Rattle.gnu_check_ends.proofs.lowest_wrong_end.Goals as goal

pub returns-then-table-eq0 : goal.returns-then-table-eq0
unfolding wrong_end
returns-then-table-eq0 c = rw (eq-eqb _ 0 c.if-table-eq0.true)

pub returns : goal.returns
unfolding wrong_end
returns c =
    let t = table_of c.args.table in
    let mapped : c.map.result ≡ option_map symbol_index c.find.result = search rules in
    rw (ne_eqb _ 0 c.if-table-eq0.false)
    (mapped
    ∙ ap (option_map symbol_index)
    (first_found _ _ _ _ (λ i. not (ends_run t i)) c.find.ensures.ran (λ x b q called. (search rules, search rules))))
