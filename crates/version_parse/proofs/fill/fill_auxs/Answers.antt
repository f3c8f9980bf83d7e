-- `version_parse::fill::fill_auxs` meets its contract. The invariant: filling from the rest, from here, gives the answer for
-- the whole chain; the store keeps its length and has room for the rest. A record that is its own next stores the same the
-- second time. Assumes nothing.
use Rattle.std.proofs.Common.{◌≡◌, ◌+◌, ◌-◌, ◌<◌, sym, ◌∙◌, arith}
use Rattle.version.specs.Store.{put_entry}
use Rattle.version.specs.Index.{is_special}
use Rattle.version_records.specs.Records.{aux_at, vernaux_shape}
use Rattle.version_layout.specs.Indices.{need_index}
use Rattle.version_entries.specs.Entries.{need_version, aux_entries}
use Rattle.version_parse.specs.Room.{AuxRoom}
use Rattle.version_records.proofs.Walks.{collect_turn, counted_repeat}
use Rattle.version_records.proofs.Bounds.{vernauxs_more}
use Rattle.version_parse.proofs.Again.{stored, storing_again}
use Rattle.version_parse.proofs.Rooms.{all_rest}
use Rattle.version_parse.proofs.fill.fill_auxs.Goals as goal

pub returns-then-aux-at : goal.returns-then-aux-at
returns-then-aux-at c =
    let aux = c.in_ok-aux.aux in
    let file = c.u32_at-file.result in
    let left = c.u16_at-end.result - c.loop.counter in
    let some : 0 < left = omega arith in
    let index = need_index c.args.order c.args.s.now aux.at in
    let version = need_version c.args.order c.args.s.now c.args.strings.now file aux in
    let once = c.put.ensures ∙ stored c.loop.store _ (is_special index) index version c.in_ok-need_entry.ensures in
    sym (counted_repeat put_entry (aux_entries c.args.order c.args.s.now c.args.strings.now file) (aux_at vernaux_shape c.args.order c.args.s.now)
    (λ a. a.next) c.loop.at aux (sym c.in_ok-aux.ensures) c.if-aux-at.true c.loop.store _ left some once
    (storing_again _ _ (is_special index) index version once))
    ∙ c.loop.invariant.2

pub loop-preserved : goal.loop-preserved
loop-preserved c =
    let aux = c.in_ok-aux.aux in
    let file = c.u32_at-file.result in
    let left = c.u16_at-end.result - c.loop.counter in
    let some : 0 < left = omega arith in
    let less : left - 1 ≡ c.u16_at-end.result - (c.loop.counter + 1) = omega arith in
    let index = need_index c.args.order c.args.s.now aux.at in
    let version = need_version c.args.order c.args.s.now c.args.strings.now file aux in
    let walk = rw less at (vernauxs_more c.args.order c.args.s.now left c.loop.at aux some (sym c.in_ok-aux.ensures)) in (
      c.put.auto.store ∙ c.loop.invariant.0,
      all_rest (AuxRoom c.args.order c.args.s.now _) _ aux _ walk c.loop.invariant.1,
      sym (collect_turn put_entry (aux_entries c.args.order c.args.s.now c.args.strings.now file) c.loop.store _ aux _ _ walk
          (c.put.ensures ∙ stored c.loop.store _ (is_special index) index version c.in_ok-need_entry.ensures))
          ∙ c.loop.invariant.2,
    )
