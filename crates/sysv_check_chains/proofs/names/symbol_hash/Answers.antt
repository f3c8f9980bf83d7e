-- `sysv_check_chains::names::symbol_hash` meets its contract. Each arm is told what `symbol_name` answered. Assumes nothing.
use Rattle.std.proofs.Common.{sym, ◌∙◌}
use Rattle.sysv_check_chains.proofs.Readings.{name_inside, hash_read, hash_unread}
use Rattle.sysv_check_chains.proofs.names.symbol_hash.Goals as goal

pub part_hash-requires : goal.part_hash-requires
part_hash-requires c =
    let a = c.args.chains in
    name_inside a.class a.order a.symbols.now a.strings.now c.args.symbol.0 _ (sym c.symbol_name.ensures ∙ c.in-Ok.is)

pub returns-in-Ok : goal.returns-in-Ok
returns-in-Ok c =
    let a = c.args.chains in
    c.part_hash.ensures
    ∙ sym (hash_read a.class a.order a.symbols.now a.strings.now c.args.symbol.0 _ (sym c.symbol_name.ensures ∙ c.in-Ok.is))

pub returns-in-Err : goal.returns-in-Err
returns-in-Err c =
    let a = c.args.chains in
    sym (hash_unread a.class a.order a.symbols.now a.strings.now c.args.symbol.0 _ (sym c.symbol_name.ensures ∙ c.in-Err.is))
