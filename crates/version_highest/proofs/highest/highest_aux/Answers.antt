-- `version_highest::highest::highest_aux` meets its contract. The invariant: going on over the rest, from here, gives the answer
-- for the whole chain. A record that is its own next gives nothing higher the second time. Assumes nothing.
use Rattle.std.proofs.Common.{◌≡◌, ◌+◌, ◌-◌, ◌<◌, sym, ◌∙◌, arith}
use Rattle.version_records.specs.Records.{aux_at, vernaux_shape}
use Rattle.version_highest.specs.Highest.{aux_indices, higher_of}
use Rattle.version_records.proofs.Walks.{collect_turn, counted_repeat}
use Rattle.version_records.proofs.Bounds.{vernauxs_more}
use Rattle.version_highest.proofs.Again.{higher_once, higher_again}
use Rattle.version_highest.proofs.highest.highest_aux.Goals as goal

pub returns-then-aux-at : goal.returns-then-aux-at
returns-then-aux-at c =
    let left = c.u16_at-end.result - c.loop.counter in
    let some : 0 < left = omega arith in
    let once = higher_once c.args.order c.args.s.now c.in_ok-aux.aux _ _ _ c.higher-high.ensures c.need_index.ensures in
    sym (counted_repeat higher_of (aux_indices c.args.order c.args.s.now) (aux_at vernaux_shape c.args.order c.args.s.now)
    (λ a. a.next) c.loop.at c.in_ok-aux.aux (sym c.in_ok-aux.ensures) c.if-aux-at.true c.loop.high _ left some once
    (higher_again c.args.order c.args.s.now c.in_ok-aux.aux _ _ once))
    ∙ c.loop.invariant

pub loop-preserved : goal.loop-preserved
loop-preserved c =
    let left = c.u16_at-end.result - c.loop.counter in
    let some : 0 < left = omega arith in
    let less : left - 1 ≡ c.u16_at-end.result - (c.loop.counter + 1) = omega arith in
    let once = higher_once c.args.order c.args.s.now c.in_ok-aux.aux _ _ _ c.higher-high.ensures c.need_index.ensures in
    let walk = rw less at (vernauxs_more c.args.order c.args.s.now left c.loop.at c.in_ok-aux.aux some (sym c.in_ok-aux.ensures)) in
    sym (collect_turn higher_of (aux_indices c.args.order c.args.s.now) c.loop.high _ c.in_ok-aux.aux _ _ walk once)
    ∙ c.loop.invariant
