-- `gnu_check_values::values::lowest_wrong_value` meets its contract: `find` answers the first symbol whose value is wrong. How
-- many symbols there are is not asked of one. Assumes nothing.
use Rattle.std.proofs.Common.{◌≡◌, not, ap, ◌∙◌, option_map, rules}
use Rattle.std.proofs.lemmas.Iterator.{serves_from_Range}
use Rattle.symbol.specs.Table.{symbol_index}
use Rattle.gnu_rules.specs.Rules.{gnu_hash_at, value_is_hash}
use Rattle.lookup.proofs.Searching.{first_found}
use Rattle.gnu_check_hashes.specs.Lent.{table_of}
use Rattle.gnu_check_values.proofs.values.lowest_wrong_value.Goals as goal

pub returns : goal.returns
unfolding gnu_hash_at
returns c =
    let t = table_of c.args.table in
    let mapped : c.map.result ≡ option_map symbol_index c.find.result = search rules in
    mapped
    ∙ ap (option_map symbol_index)
    (first_found _ _ _ _ (λ i. not (value_is_hash t i)) c.find.ensures.ran (λ x b q called. (search rules, search rules)))
