-- `word::u64_at` meets its contract: the library joins the bytes at the place. Assumes nothing.
use Rattle.std.proofs.Common.{◌∙◌, arith}
use Rattle.word.proofs.Joined.{little_joined, big_joined}
use Rattle.word.proofs.u64_at.Goals as goal

pub returns-in-Little : goal.returns-in-Little
returns-in-Little c =
    let args = c.args in
    rw c.in-Little.is (c.from_le_bytes.ensures ∙ little_joined args.s.now _ args.at 8 c.bytes_at-bytes.ensures 7 (omega arith))

pub returns-in-Big : goal.returns-in-Big
returns-in-Big c =
    let args = c.args in
    let joined = big_joined args.s.now _ args.at 8 c.bytes_at-bytes.ensures 7 7 (omega arith) (omega arith) in
    rw c.in-Big.is (omega (arith, c.from_be_bytes.ensures, joined))
