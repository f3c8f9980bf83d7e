-- `version_parse::fill::fill_needs` meets its contract. The invariant: filling from the rest, from here, gives the answer for
-- the whole list; the store keeps its length and has room for the rest. The measure is what is left of the bytes.
-- Assumes nothing.
use Rattle.std.proofs.Common.{sym, ◌∙◌, rules, arith}
use Rattle.version.specs.Store.{put_entry}
use Rattle.version_records.specs.Records.{verneed_shape}
use Rattle.version_parse.specs.SecondPass.{need_entries}
use Rattle.version_parse.specs.Room.{NeedRoom}
use Rattle.version_records.proofs.Walks.{collect_end, collect_broken, collect_turn, collect_leave}
use Rattle.version_records.proofs.Bounds.{record_place, record_onward, listed_end, listed_more, listed_stop}
use Rattle.version_parse.proofs.Rooms.{all_first, all_rest}
use Rattle.version_parse.proofs.fill.fill_needs.Goals as goal

pub returns-in_err-need : goal.returns-in_err-need
returns-in_err-need c =
    (search rules)
    ∙ sym (collect_broken put_entry (need_entries c.args.order c.args.s.now c.args.strings.now) c.loop-at.store _ _
    (listed_stop verneed_shape c.args.order c.args.s.now c.loop-at.at c.loop-at-test.true _ (sym c.in_err-need.ensures)))
    ∙ c.loop-at.invariant.1

pub fill_auxs-requires : goal.fill_auxs-requires
fill_auxs-requires c =
    let need = c.in_ok-need.need in
    let walk = listed_more verneed_shape c.args.order c.args.s.now c.loop-at.at c.loop-at-test.true need (sym c.in_ok-need.ensures) in (
      record_place verneed_shape c.args.order c.args.s.now c.loop-at.at need (sym c.in_ok-need.ensures) (omega arith),
      rw c.loop-at.invariant.0 (all_first (NeedRoom c.args.order c.args.s.now _) _ need _ walk c.loop-at.invariant.2),
    )

pub returns-in_err-fill_auxs : goal.returns-in_err-fill_auxs
returns-in_err-fill_auxs c =
    let need = c.in_ok-need.need in
    let walk = listed_more verneed_shape c.args.order c.args.s.now c.loop-at.at c.loop-at-test.true need (sym c.in_ok-need.ensures) in
    (search rules)
    ∙ sym (collect_leave put_entry (need_entries c.args.order c.args.s.now c.args.strings.now) c.loop-at.store _ need _ _ walk
    c.in_err-fill_auxs.ensures)
    ∙ c.loop-at.invariant.1

pub loop-at-smaller : goal.loop-at-smaller
loop-at-smaller c =
    let past = record_onward verneed_shape c.args.order c.args.s.now c.loop-at.at _ (sym c.in_ok-need.ensures) c.loop-at-test.true in
    omega (arith, past)

pub loop-at-preserved : goal.loop-at-preserved
loop-at-preserved c =
    let need = c.in_ok-need.need in
    let walk = listed_more verneed_shape c.args.order c.args.s.now c.loop-at.at c.loop-at-test.true need (sym c.in_ok-need.ensures) in (
      c.fill_auxs.auto.store ∙ c.loop-at.invariant.0,
      sym (collect_turn put_entry (need_entries c.args.order c.args.s.now c.args.strings.now) c.loop-at.store _ need _ _ walk
          c.in_ok-fill_auxs.ensures)
          ∙ c.loop-at.invariant.1,
      all_rest (NeedRoom c.args.order c.args.s.now _) _ need _ walk c.loop-at.invariant.2,
    )

pub returns : goal.returns
returns c =
    sym (collect_end put_entry (need_entries c.args.order c.args.s.now c.args.strings.now) c.loop-at.store _
    (listed_end verneed_shape c.args.order c.args.s.now c.loop-at.at c.loop-at-test.false))
    ∙ c.loop-at.invariant.1
