-- `strings::after_last_zero` meets its contract: the library's search from the end finds the last zero. Assumes nothing.
use Rattle.std.proofs.Common.{Some, None, sym}
use Rattle.strings.proofs.Readable.{after_last}
use Rattle.strings.proofs.after_last_zero.Goals as goal

pub returns-in-Some : goal.returns-in-Some
returns-in-Some c = sym (after_last c.args.strings.now (Some c.in-Some.last) c.in-Some.ensures)

pub returns-in-None : goal.returns-in-None
returns-in-None c = sym (after_last c.args.strings.now None c.in-None.ensures)
