-- `version_highest::highest::highest_def` meets its contract. The invariant: going on over the rest, from here, gives the answer
-- for the whole list. The measure is what is left of the bytes, since each record lies past the one before. Assumes
-- nothing.
use Rattle.std.proofs.Common.{sym, ◌∙◌, rules, arith}
use Rattle.version_records.specs.Records.{verdef_shape}
use Rattle.version_highest.specs.Highest.{def_indices, higher_of}
use Rattle.version_records.proofs.Walks.{collect_end, collect_broken, collect_turn}
use Rattle.version_records.proofs.Bounds.{record_place, record_onward, listed_end, listed_more, listed_stop}
use Rattle.version_highest.proofs.highest.highest_def.Goals as goal

pub returns-in_err-def : goal.returns-in_err-def
returns-in_err-def c =
    (search rules) ∙
    sym (collect_broken higher_of (def_indices c.args.order c.args.s.now) c.loop-at.high _ _
    (listed_stop verdef_shape c.args.order c.args.s.now c.loop-at.at c.loop-at-test.true _ (sym c.in_err-def.ensures)))
    ∙ c.loop-at.invariant

pub higher_def-high-requires : goal.higher_def-high-requires
higher_def-high-requires c =
    record_place verdef_shape c.args.order c.args.s.now c.loop-at.at _ (sym c.in_ok-def.ensures) (omega arith)

pub loop-at-smaller : goal.loop-at-smaller
loop-at-smaller c =
    let past = record_onward verdef_shape c.args.order c.args.s.now c.loop-at.at _ (sym c.in_ok-def.ensures) c.loop-at-test.true in
    omega (arith, past)

pub loop-at-preserved : goal.loop-at-preserved
loop-at-preserved c =
    let walk = listed_more verdef_shape c.args.order c.args.s.now c.loop-at.at c.loop-at-test.true _ (sym c.in_ok-def.ensures) in
    sym (collect_turn higher_of (def_indices c.args.order c.args.s.now) c.loop-at.high _ _ _ _ walk c.higher_def-high.ensures)
    ∙ c.loop-at.invariant

pub returns : goal.returns
returns c =
    sym (collect_end higher_of (def_indices c.args.order c.args.s.now) c.loop-at.high _
    (listed_end verdef_shape c.args.order c.args.s.now c.loop-at.at c.loop-at-test.false))
    ∙ c.loop-at.invariant
