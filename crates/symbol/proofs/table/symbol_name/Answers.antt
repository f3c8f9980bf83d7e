-- `symbol::table::symbol_name` meets its contract. Each arm is told what `symbol_at` answered. Assumes nothing.
use Rattle.std.proofs.Common.{arith, sym, ap, ◌∙◌}
use Rattle.symbol.specs.Table.{name_in}
use Rattle.symbol.proofs.Names.{symbol_name_long, symbol_name_fits}
use Rattle.symbol.proofs.table.symbol_name.Goals as goal

pub returns-then-strings-gt-LIMIT : goal.returns-then-strings-gt-LIMIT
returns-then-strings-gt-LIMIT c =
    let args = c.args in
    sym (symbol_name_long args.class args.order args.symbols.now args.strings.now args.index c.if-strings-gt-LIMIT.true)

pub returns-in_err-symbol : goal.returns-in_err-symbol
returns-in_err-symbol c =
    let args = c.args in
    let fits = symbol_name_fits args.class args.order args.symbols.now args.strings.now args.index c.if-strings-gt-LIMIT.false in
    rw fits grind arith

pub returns : goal.returns
returns c =
    let args = c.args in
    c.string_at.ensures
    ∙ ap (name_in args.strings.now) c.in_ok-symbol.ensures
    ∙ sym (symbol_name_fits args.class args.order args.symbols.now args.strings.now args.index c.if-strings-gt-LIMIT.false)
