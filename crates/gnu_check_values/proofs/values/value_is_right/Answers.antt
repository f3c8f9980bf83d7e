-- `gnu_check_values::values::value_is_right` meets its contract: both words are the definition's. Assumes nothing.
use Rattle.gnu_rules.specs.Rules.{gnu_hash_at}
use Rattle.gnu_check_hashes.specs.Names.{hash_in}
use Rattle.gnu_check_values.proofs.values.value_is_right.Goals as goal

pub returns : goal.returns
unfolding gnu_hash_at hash_in
returns c = rw (c.symbol_hash.ensures, c.word_of-value.ensures)
