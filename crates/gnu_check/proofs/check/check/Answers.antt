-- `gnu_check::check::check` meets its contract. Each answer is told what was read of the parts. Assumes nothing.
use Rattle.std.proofs.Common.{◌≡◌, true, false, Err, refl, ◌∙◌, rules, lt-ltb, le-ltb}
use Rattle.gnu_rules.specs.declared.Fault.TheVariants.{Refused}
use Rattle.gnu_check.proofs.Judged.{check_told}
use Rattle.gnu_check.proofs.check.check.Goals as goal

pub returns-then-strings-gt-LIMIT : goal.returns-then-strings-gt-LIMIT
returns-then-strings-gt-LIMIT c =
    let a = c.args in
    check_told a.class a.order a.table.now a.symbols.now a.strings.now true _ _ (lt-ltb _ _ c.if-strings-gt-LIMIT.true) refl refl

pub returns-in_err-count : goal.returns-in_err-count
returns-in_err-count c =
    let a = c.args in
    let handed : c.from_residual.result ≡ Err (Refused c.in_err-count.field-0.0) = search rules in
    handed
    ∙ check_told a.class a.order a.table.now a.symbols.now a.strings.now false _ _ (le-ltb _ _ c.if-strings-gt-LIMIT.false)
    c.in_err-count.ensures refl

pub returns-in_err-layout : goal.returns-in_err-layout
returns-in_err-layout c =
    let a = c.args in
    let handed : c.from_residual-in_err-layout.result ≡ Err (Refused c.in_err-layout.field-0.0) = search rules in
    handed
    ∙ check_told a.class a.order a.table.now a.symbols.now a.strings.now false _ _ (le-ltb _ _ c.if-strings-gt-LIMIT.false)
    c.in_ok-count.ensures c.in_err-layout.ensures

pub returns : goal.returns
returns c =
    let a = c.args in
    c.check_table.ensures
    ∙ check_told a.class a.order a.table.now a.symbols.now a.strings.now false _ _ (le-ltb _ _ c.if-strings-gt-LIMIT.false)
    c.in_ok-count.ensures c.in_ok-layout.ensures
