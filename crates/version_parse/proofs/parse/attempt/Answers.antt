-- `version_parse::parse::attempt` meets its contract. The cases of `parsed_into`, one for each return. Assumes nothing.
use Rattle.std.proofs.Common.{length, sym, ◌∙◌, rules}
use Rattle.version_parse.proofs.Parses.{parsed_long, parsed_first, parsed_small, parsed_second, parsed_done}
use Rattle.version_parse.proofs.Rooms.{highest_room}
use Rattle.version_parse.proofs.parse.attempt.Goals as goal

pub returns-then-any_long : goal.returns-then-any_long
returns-then-any_long c = parsed_long _ _ _ _ _ (sym c.any_long.ensures ∙ c.if-any_long.true)

pub returns-in_err-high : goal.returns-in_err-high
returns-in_err-high c =
    (search rules) ∙ parsed_first _ _ _ _ _ (sym c.any_long.ensures ∙ c.if-any_long.false) _ (sym c.in_err-high.ensures)

pub returns-then-store-high : goal.returns-then-store-high
returns-then-store-high c =
    parsed_small c.args.order c.args.verdef.now c.args.verneed.now c.args.strings.now c.args.store.now
    (sym c.any_long.ensures ∙ c.if-any_long.false) _ (sym c.in_ok-high.ensures) c.if-store-high.true

pub second_pass-requires : goal.second_pass-requires
second_pass-requires c =
    highest_room c.args.order c.args.verdef.now c.args.verneed.now (length c.args.store.now) _ (sym c.in_ok-high.ensures)
    c.if-store-high.false

pub returns-in_err-second_pass : goal.returns-in_err-second_pass
returns-in_err-second_pass c =
    (search rules)
    ∙ parsed_second c.args.order c.args.verdef.now c.args.verneed.now c.args.strings.now c.args.store.now
    (sym c.any_long.ensures ∙ c.if-any_long.false) _ (sym c.in_ok-high.ensures) c.if-store-high.false _
    c.in_err-second_pass.ensures

pub returns : goal.returns
returns c =
    parsed_done c.args.order c.args.verdef.now c.args.verneed.now c.args.strings.now c.args.store.now
    (sym c.any_long.ensures ∙ c.if-any_long.false) _ (sym c.in_ok-high.ensures) c.if-store-high.false _
    c.in_ok-second_pass.ensures
