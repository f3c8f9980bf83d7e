-- `note_name::trimmed` meets its contract: what follows the last byte that is not 0 are zeros. Assumes nothing.
use Rattle.std.proofs.Common.{rules}
use Rattle.note_name.proofs.Trimming.{trimmed_at_last, trimmed_zeros}
use Rattle.note_name.proofs.trimmed.Goals as goal

pub returns-in-Some : goal.returns-in-Some
returns-in-Some c = rw (trimmed_at_last c.args.name.now c.in-Some.last (search rules) (search rules) (search rules))

pub returns-in-None : goal.returns-in-None
returns-in-None c = rw (trimmed_zeros c.args.name.now (search rules))
