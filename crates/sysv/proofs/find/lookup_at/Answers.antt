-- `sysv::find::lookup_at` meets its contract: the walk is the one from the hash's bucket. Assumes nothing.
use Rattle.std.proofs.Common.{sym, ◌∙◌}
use Rattle.sysv.proofs.Headers.{lookup_walk}
use Rattle.sysv.proofs.find.lookup_at.Goals as goal

pub returns : goal.returns
returns c =
    c.walk.ensures
    ∙ rw c.u32_at-start.ensures (sym
    (lookup_walk c.args.class c.args.order c.args.parts.table.now c.args.parts.symbols.now
    c.args.parts.strings.now _ _ c.args.header c.requires c.if-buckets-eq0.false))
