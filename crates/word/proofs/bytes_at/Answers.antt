-- `word::bytes_at` meets its contract: where fewer than N bytes are left, each is looked up. Assumes nothing.
use Rattle.std.proofs.Common.{◌∙◌, get_or, length, rules, tests, arith}
use Rattle.std.specs.List.{slice_range}
use Rattle.std.proofs.lemmas.List.{get_or-drop}
use Rattle.word.proofs.Made.{made, to_end}
use Rattle.word.proofs.bytes_at.Goals as goal

pub returns-in-None : goal.returns-in-None
returns-in-None g c =
    let items = c.from_fn.ensures.items in
    let rest = slice_range c.args.s.now c.args.at (length c.args.s.now) in
    let each = made _ (λ i. get_or rest i 0) _ (λ i y q called. search (rules, tests)) _ 0 _ items.each in
    (items.long, λ i less. each i (omega arith) (omega arith) ∙ rw (to_end c.args.s.now c.args.at) (get_or-drop c.args.at c.args.s.now i 0))
