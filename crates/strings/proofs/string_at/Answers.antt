-- `strings::string_at` meets its contract: the first zero from the offset on is where the search ended, or there is none. Assumes nothing.
use Rattle.std.proofs.Common.{◌-◌, ◌≡◌, arith, drop, lt-ltb, le-ltb}
use Rattle.endian.specs.First.{first, is_zero}
use Rattle.strings.proofs.Readable.{readable_true, readable_false}
use Rattle.strings.proofs.string_at.Goals as goal

pub returns-then-strings-gt-LIMIT : goal.returns-then-strings-gt-LIMIT
returns-then-strings-gt-LIMIT c = simp (lt-ltb _ _ c.if-strings-gt-LIMIT.true)

pub returns-then-end-strings : goal.returns-then-end-strings
returns-then-end-strings c =
    let args = c.args in
    let s = args.strings.now in
    let found : first is_zero (drop args.offset s) ≡ c.first_zero-end.result - args.offset = omega arith in
    simp (le-ltb _ _ c.if-strings-gt-LIMIT.false, readable_true s args.offset (omega arith), found)

pub returns : goal.returns
returns c =
    let args = c.args in
    simp (le-ltb _ _ c.if-strings-gt-LIMIT.false, readable_false args.strings.now args.offset (omega arith))
