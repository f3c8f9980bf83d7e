-- `version_parse::fill::fill_defs` meets its contract. The invariant: filling from the rest, from here, gives the answer for
-- the whole list; the store keeps its length and has room for the rest. The measure is what is left of the bytes.
-- Assumes nothing.
use Rattle.std.proofs.Common.{sym, ◌∙◌, rules, arith}
use Rattle.version_layout.specs.Indices.{def_index, is_base}
use Rattle.version.specs.Store.{put_entry}
use Rattle.version_records.specs.Records.{verdef_shape}
use Rattle.version_entries.specs.Entries.{passed_over, def_version, def_entries}
use Rattle.version_parse.specs.Room.{DefRoom}
use Rattle.version_records.proofs.Walks.{collect_end, collect_broken, collect_turn, collect_leave}
use Rattle.version_records.proofs.Bounds.{record_onward, listed_end, listed_more, listed_stop}
use Rattle.version_parse.proofs.Rooms.{all_first, all_rest, entry_room}
use Rattle.version_parse.proofs.Again.{or_left, stored}
use Rattle.version_parse.proofs.fill.fill_defs.Goals as goal

pub returns-in_err-def : goal.returns-in_err-def
returns-in_err-def c =
    (search rules)
    ∙ sym (collect_broken put_entry (def_entries c.args.order c.args.s.now c.args.strings.now) c.loop-at.store _ _
    (listed_stop verdef_shape c.args.order c.args.s.now c.loop-at.at c.loop-at-test.true _ (sym c.in_err-def.ensures)))
    ∙ c.loop-at.invariant.1

pub returns-in_err-def_entry : goal.returns-in_err-def_entry
returns-in_err-def_entry c =
    let def = c.in_ok-def.def in
    let walk = listed_more verdef_shape c.args.order c.args.s.now c.loop-at.at c.loop-at-test.true def (sym c.in_ok-def.ensures) in
    (search rules)
    ∙ sym (collect_leave put_entry (def_entries c.args.order c.args.s.now c.args.strings.now) c.loop-at.store _ def _ _ walk
    (stored c.loop-at.store _ (passed_over c.args.order c.args.s.now def) (def_index c.args.order c.args.s.now def.at)
    (def_version c.args.order c.args.s.now c.args.strings.now def) c.in_err-def_entry.ensures))
    ∙ c.loop-at.invariant.1

pub put-requires : goal.put-requires
put-requires c =
    let def = c.in_ok-def.def in
    let walk = listed_more verdef_shape c.args.order c.args.s.now c.loop-at.at c.loop-at-test.true def (sym c.in_ok-def.ensures) in
    let room = all_first (DefRoom c.args.order c.args.s.now _) _ def _ walk c.loop-at.invariant.2 in
    rw c.loop-at.invariant.0 (entry_room _ _ (passed_over c.args.order c.args.s.now def) (def_index c.args.order c.args.s.now def.at)
    (def_version c.args.order c.args.s.now c.args.strings.now def) c.in_ok-def_entry.ensures
    (λ kept. room (or_left (is_base c.args.order c.args.s.now def) _ kept)))

pub loop-at-smaller : goal.loop-at-smaller
loop-at-smaller c =
    let past = record_onward verdef_shape c.args.order c.args.s.now c.loop-at.at _ (sym c.in_ok-def.ensures) c.loop-at-test.true in
    omega (arith, past)

pub loop-at-preserved : goal.loop-at-preserved
loop-at-preserved c =
    let def = c.in_ok-def.def in
    let walk = listed_more verdef_shape c.args.order c.args.s.now c.loop-at.at c.loop-at-test.true def (sym c.in_ok-def.ensures) in (
      c.put.auto.store ∙ c.loop-at.invariant.0,
      sym (collect_turn put_entry (def_entries c.args.order c.args.s.now c.args.strings.now) c.loop-at.store _ def _ _ walk
          (c.put.ensures ∙ stored c.loop-at.store _ (passed_over c.args.order c.args.s.now def) (def_index c.args.order c.args.s.now def.at)
          (def_version c.args.order c.args.s.now c.args.strings.now def) c.in_ok-def_entry.ensures))
          ∙ c.loop-at.invariant.1,
      all_rest (DefRoom c.args.order c.args.s.now _) _ def _ walk c.loop-at.invariant.2,
    )

pub returns : goal.returns
returns c =
    sym (collect_end put_entry (def_entries c.args.order c.args.s.now c.args.strings.now) c.loop-at.store _
    (listed_end verdef_shape c.args.order c.args.s.now c.loop-at.at c.loop-at-test.false))
    ∙ c.loop-at.invariant.1
