-- `gnu_check_hashes::hashes::symbol_hash` meets its contract. Each arm is told what `symbol_at` answered. Assumes nothing.
use Rattle.std.proofs.Common.{sym, ◌∙◌}
use Rattle.gnu_check_hashes.proofs.Hashing.{hash_in_at, hash_in_none}
use Rattle.gnu_check_hashes.proofs.hashes.symbol_hash.Goals as goal

pub returns-in-Ok : goal.returns-in-Ok
returns-in-Ok c =
    let t = c.args in
    c.hash_at.ensures
    ∙ sym (hash_in_at t.class t.order t.symbols.now t.strings.now c.args.symbol.0 _ (sym c.symbol_at.ensures ∙ c.in-Ok.is))

pub returns-in-Err : goal.returns-in-Err
returns-in-Err c =
    let t = c.args in
    sym (hash_in_none t.class t.order t.symbols.now t.strings.now c.args.symbol.0 _ (sym c.symbol_at.ensures ∙ c.in-Err.is))
