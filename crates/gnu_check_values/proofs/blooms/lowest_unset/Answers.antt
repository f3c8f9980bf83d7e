-- `gnu_check_values::blooms::lowest_unset` meets its contract: `find` answers the first symbol whose hash the filter stops. How
-- many symbols there are is not asked of one. Assumes nothing.
use Rattle.std.proofs.Common.{◌≡◌, not, ap, ◌∙◌, option_map, rules}
use Rattle.symbol.specs.Table.{symbol_index}
use Rattle.gnu_table.specs.Table.{bloom_first, bloom_second, bloom_filter}
use Rattle.gnu_rules.specs.Rules.{gnu_hash_at}
use Rattle.lookup.proofs.Searching.{first_found}
use Rattle.gnu_check_hashes.specs.Lent.{table_of}
use Rattle.gnu_check_values.specs.Blooms.{hash_passes}
use Rattle.gnu_check_values.proofs.blooms.lowest_unset.Goals as goal

pub returns : goal.returns
unfolding hash_passes gnu_hash_at bloom_filter bloom_first bloom_second
returns c =
    let t = table_of c.args.table in
    let mapped : c.map.result ≡ option_map symbol_index c.find.result = search rules in
    mapped
    ∙ ap (option_map symbol_index)
    (first_found _ _ _ _ (λ i. not (hash_passes t i)) c.find.ensures.ran (λ x b q called. (search rules, search rules)))
