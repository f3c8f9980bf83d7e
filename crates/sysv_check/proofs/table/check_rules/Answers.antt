-- `sysv_check::table::check_rules` meets its contract. Each return is told what the passes answered. Assumes nothing.
use Rattle.std.proofs.Common.{is_some, sym, ap, ◌∙◌}
use Rattle.sysv_check.proofs.Passes.{header_is, shaped_facts, check_1, check_2, check_3, check_all, number_there}
use Rattle.sysv_check.proofs.table.check_rules.Goals as goal

pub returns-then-not-has_shape : goal.returns-then-not-has_shape
returns-then-not-has_shape c =
    let a = c.args.chains in
    sym (check_1 a.class a.order a.table.now a.symbols.now a.strings.now a.first.0 _ a.count
    (header_is _ _ _ _ c.requires.0 c.requires.1) c.requires.2
    (sym c.has_shape.ensures ∙ c.if-not-has_shape.true))

pub returns-then-is_some : goal.returns-then-is_some
returns-then-is_some c =
    let a = c.args.chains in
    sym (check_2 a.class a.order a.table.now a.symbols.now a.strings.now a.first.0 _ a.count
    (header_is _ _ _ _ c.requires.0 c.requires.1) c.requires.2
    (sym c.has_shape.ensures ∙ c.if-not-has_shape.false)
    (sym (c.is_some.ensures ∙ ap is_some c.lowest_unreadable.ensures ∙ number_there _) ∙ c.if-is_some.true))

pub overflow_sub-count : goal.overflow_sub-count
overflow_sub-count c =
    let a = c.args.chains in
    (shaped_facts a.buckets c.args.chain_count a.count a.first.0 (sym c.has_shape.ensures ∙ c.if-not-has_shape.false)).1

pub returns-then-not-chains_hold : goal.returns-then-not-chains_hold
returns-then-not-chains_hold c =
    let a = c.args.chains in
    sym (check_3 a.class a.order a.table.now a.symbols.now a.strings.now a.first.0 _ a.count
    (header_is _ _ _ _ c.requires.0 c.requires.1) c.requires.2
    (sym c.has_shape.ensures ∙ c.if-not-has_shape.false)
    (sym (c.is_some.ensures ∙ ap is_some c.lowest_unreadable.ensures ∙ number_there _) ∙ c.if-is_some.false)
    (sym c.chains_hold.ensures ∙ c.if-not-chains_hold.true))

pub returns : goal.returns
returns c =
    let a = c.args.chains in
    sym (check_all a.class a.order a.table.now a.symbols.now a.strings.now a.first.0 _ a.count
    (header_is _ _ _ _ c.requires.0 c.requires.1) c.requires.2
    (sym c.has_shape.ensures ∙ c.if-not-has_shape.false)
    (sym (c.is_some.ensures ∙ ap is_some c.lowest_unreadable.ensures ∙ number_there _) ∙ c.if-is_some.false)
    (sym c.chains_hold.ensures ∙ c.if-not-chains_hold.false))
