-- `strings::string_equals` meets its contract. Assumes nothing.
use Rattle.std.proofs.Common.{sym, ◌∙◌}
use Rattle.strings.proofs.Meaning.{equals_long, equals_reads}
use Rattle.strings.proofs.string_equals.Goals as goal

pub returns-then-strings-gt-LIMIT : goal.returns-then-strings-gt-LIMIT
returns-then-strings-gt-LIMIT c =
    let args = c.args in
    sym (equals_long args.strings.now args.offset args.name.now c.if-strings-gt-LIMIT.true)

pub returns : goal.returns
returns c =
    let args = c.args in
    c.reads_name.ensures ∙ sym (equals_reads args.strings.now args.offset args.name.now c.if-strings-gt-LIMIT.false)
