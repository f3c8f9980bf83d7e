-- `version_highest::highest::highest_need` meets its contract. The invariant: going on over the rest, from here, gives the
-- answer for the whole list. The measure is what is left of the bytes, since each record lies past the one before.
-- Assumes nothing.
use Rattle.std.proofs.Common.{sym, ◌∙◌, rules, arith}
use Rattle.version_records.specs.Records.{verneed_shape}
use Rattle.version_highest.specs.Highest.{need_indices, higher_of}
use Rattle.version_records.proofs.Walks.{collect_end, collect_broken, collect_turn, collect_leave}
use Rattle.version_records.proofs.Bounds.{record_place, record_onward, listed_end, listed_more, listed_stop}
use Rattle.version_highest.proofs.highest.highest_need.Goals as goal

pub returns-in_err-need : goal.returns-in_err-need
returns-in_err-need c =
    (search rules) ∙
    sym (collect_broken higher_of (need_indices c.args.order c.args.s.now) c.loop-at.high _ _
    (listed_stop verneed_shape c.args.order c.args.s.now c.loop-at.at c.loop-at-test.true _ (sym c.in_err-need.ensures)))
    ∙ c.loop-at.invariant

pub highest_aux-requires : goal.highest_aux-requires
highest_aux-requires c =
    record_place verneed_shape c.args.order c.args.s.now c.loop-at.at _ (sym c.in_ok-need.ensures) (omega arith)

pub returns-in_err-high : goal.returns-in_err-high
returns-in_err-high c =
    let walk = listed_more verneed_shape c.args.order c.args.s.now c.loop-at.at c.loop-at-test.true _ (sym c.in_ok-need.ensures) in
    (search rules) ∙
    sym (collect_leave higher_of (need_indices c.args.order c.args.s.now) c.loop-at.high _ _ _ _ walk c.in_err-high.ensures)
    ∙ c.loop-at.invariant

pub loop-at-smaller : goal.loop-at-smaller
loop-at-smaller c =
    let past = record_onward verneed_shape c.args.order c.args.s.now c.loop-at.at _ (sym c.in_ok-need.ensures) c.loop-at-test.true in
    omega (arith, past)

pub loop-at-preserved : goal.loop-at-preserved
loop-at-preserved c =
    let walk = listed_more verneed_shape c.args.order c.args.s.now c.loop-at.at c.loop-at-test.true _ (sym c.in_ok-need.ensures) in
    sym (collect_turn higher_of (need_indices c.args.order c.args.s.now) c.loop-at.high _ _ _ _ walk c.in_ok-high.ensures)
    ∙ c.loop-at.invariant

pub returns : goal.returns
returns c =
    sym (collect_end higher_of (need_indices c.args.order c.args.s.now) c.loop-at.high _
    (listed_end verneed_shape c.args.order c.args.s.now c.loop-at.at c.loop-at-test.false))
    ∙ c.loop-at.invariant
