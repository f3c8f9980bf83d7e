-- `export::kinds::kind_refusal` meets its contract. Assumes nothing.
use Rattle.std.proofs.Common.{sym, ◌∙◌, map}
use Rattle.endian.specs.Lent.{now_of}
use Rattle.export.proofs.Long.{kind_refusal_lem}
use Rattle.export.proofs.kinds.kind_refusal.Goals as goal

pub returns-then-any_long : goal.returns-then-any_long
returns-then-any_long c =
    let read = kind_refusal_lem (map now_of c.args.parts.now) in
    sym (rw (sym c.any_long.ensures ∙ c.if-any_long.true) at read)

pub returns-else-any_long : goal.returns-else-any_long
returns-else-any_long c =
    let read = kind_refusal_lem (map now_of c.args.parts.now) in
    sym (rw (sym c.any_long.ensures ∙ c.if-any_long.false) at read)
