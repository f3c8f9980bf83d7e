-- `sysv_check::table::check` meets its contract. Each answer is told what `symbol_count` and `header_of` answered. Assumes nothing.
use Rattle.std.proofs.Common.{◌≡◌, Err, sym, ap, ◌∙◌, rules, lt-ltb, le-ltb}
use Rattle.sysv_header.proofs.Headers.{header_read}
use Rattle.sysv_check.specs.declared.table.Fault.TheVariants.{Refused}
use Rattle.sysv_check.proofs.Passes.{check_from_lem, count_read}
use Rattle.sysv_check.proofs.table.check.Goals as goal

pub returns-then-strings-gt-LIMIT : goal.returns-then-strings-gt-LIMIT
returns-then-strings-gt-LIMIT c = sym (check_from_lem _ _ _ _ _ ∙ rw (lt-ltb _ _ c.if-strings-gt-LIMIT.true))

pub returns-in_err-count : goal.returns-in_err-count
returns-in_err-count c =
    let handed : c.from_residual.result ≡ Err (Refused c.in_err-count.field-0.0) = search rules in
    handed ∙ sym (check_from_lem _ _ _ _ _ ∙ rw (le-ltb _ _ c.if-strings-gt-LIMIT.false, ← c.in_err-count.ensures))

pub returns-in_err-header : goal.returns-in_err-header
returns-in_err-header c =
    let handed : c.from_residual-in_err-header.result ≡ Err (Refused c.in_err-header.field-0.0) = search rules in
    handed
    ∙ sym (check_from_lem _ _ _ _ _
    ∙ rw (le-ltb _ _ c.if-strings-gt-LIMIT.false, ← c.in_ok-count.ensures, ← c.in_err-header.ensures))

pub check_rules-requires : goal.check_rules-requires
check_rules-requires c =
    let own = (header_read c.args.order c.args.table.now _ (sym c.in_ok-header.ensures)).2 in (
      ap (λ header. header.bucket_count) own,
      ap (λ header. header.chain_count) own,
      count_read c.args.class c.args.symbols.now _ (sym c.in_ok-count.ensures),
    )

pub returns : goal.returns
returns c =
    c.check_rules.ensures
    ∙ sym (check_from_lem _ _ _ _ _
    ∙ rw (le-ltb _ _ c.if-strings-gt-LIMIT.false, ← c.in_ok-count.ensures, ← c.in_ok-header.ensures))
