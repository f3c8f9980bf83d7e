-- `name_match::reads_name` meets its contract: the name stands there, and what follows it is a zero. Assumes nothing.
use Rattle.std.proofs.Common.{sym, arith, drop, length-drop}
use Rattle.name_match.proofs.Comparing.{reads_short, reads_all}
use Rattle.name_match.proofs.reads_name.Goals as goal

pub returns-then-bytes-from : goal.returns-then-bytes-from
returns-then-bytes-from c =
    let args = c.args in
    sym (reads_short (drop args.from args.bytes.now) args.name.now (rw length-drop (omega arith)))

pub returns-then-bytes-from-2 : goal.returns-then-bytes-from-2
returns-then-bytes-from-2 c =
    let args = c.args in
    sym (reads_short (drop args.from args.bytes.now) args.name.now (rw length-drop c.if-bytes-from-2.true))

pub returns-then-not-name_stands : goal.returns-then-not-name_stands
returns-then-not-name_stands c = sym (c.name_stands.ensures.1 c.if-not-name_stands.true)

pub returns : goal.returns
returns c =
    let args = c.args in
    let all = c.name_stands.ensures.0 c.if-not-name_stands.false in
    sym (reads_all args.bytes.now args.from args.name.now (omega arith) all)
