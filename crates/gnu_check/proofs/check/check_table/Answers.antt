-- `gnu_check::check::check_table` meets its contract: the answer by the first broken rule of G1 to G5, or what follows.
-- Assumes nothing.
use Rattle.std.proofs.Common.{sym, ◌∙◌}
use Rattle.gnu_check.proofs.Judged.{header_broken, header_kept, header_sound}
use Rattle.gnu_check.proofs.check.check_table.Goals as goal

pub returns-in-Some : goal.returns-in-Some
returns-in-Some c =
    let t = c.args.table in
    header_broken t.class t.order t.bytes.now t.symbols.now t.strings.now t.layout t.count c.in-Some.rule
    (sym c.in-Some.is ∙ c.broken_header.ensures)

pub check_symbols-requires : goal.check_symbols-requires
check_symbols-requires c = header_sound c.args.table.layout c.args.table.count (sym c.in_default.is ∙ c.broken_header.ensures)

pub returns : goal.returns
returns c =
    let t = c.args.table in
    c.check_symbols.ensures
    ∙ header_kept t.class t.order t.bytes.now t.symbols.now t.strings.now t.layout t.count
    (sym c.in_default.is ∙ c.broken_header.ensures)
