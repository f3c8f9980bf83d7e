-- `gnu_check_values::blooms::has_bits` meets its contract: what the filter says of the symbol's hash. Assumes nothing.
use Rattle.std.proofs.Common.{ap, ◌∙◌}
use Rattle.gnu_table.specs.Places.{table_at}
use Rattle.gnu_table.specs.Table.{bloom_first, bloom_second, bloom_filter}
use Rattle.gnu_rules.specs.Rules.{gnu_hash_at}
use Rattle.gnu_check_hashes.specs.Names.{hash_in}
use Rattle.gnu_check_values.specs.Blooms.{passes, hash_passes}
use Rattle.gnu_check_values.proofs.blooms.has_bits.Goals as goal

pub returns : goal.returns
unfolding hash_passes gnu_hash_at hash_in bloom_filter bloom_first bloom_second
returns c =
    let t = c.args.table in
    c.unwrap_or.ensures
    ∙ ap passes c.bloom_filter.ensures
    ∙ ap (λ h. passes (bloom_filter (table_at t.class t.order t.bytes.now t.layout 0) h)) c.symbol_hash-hash.ensures
