-- `gnu_check_ends::ends_right` meets its contract: both bits are the definition's. Assumes nothing.
use Rattle.gnu_rules.specs.Rules.{gnu_hash_at}
use Rattle.gnu_check_hashes.specs.Names.{hash_in}
use Rattle.gnu_check_ends.specs.Ends.{last_in}
use Rattle.gnu_check_ends.proofs.ends_right.Goals as goal

pub returns : goal.returns
unfolding gnu_hash_at hash_in last_in
returns c = rw (c.is_last.ensures, c.word_of-value.ensures)
