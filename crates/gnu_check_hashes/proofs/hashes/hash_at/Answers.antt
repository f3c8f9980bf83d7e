-- `gnu_check_hashes::hashes::hash_at` meets its contract. The invariant: hashing the rest of the string, from h, gives the hash.
-- Assumes nothing.
use Rattle.std.proofs.Common.{◌≡◌, ◌≤◌, length, drop, sym, ap, ◌∙◌, arith}
use Rattle.std.proofs.lemmas.List.{take_rest}
use Rattle.gnu_check_hashes.proofs.Hashing.{hash_from, hash_from_start, hash_from_end, hash_from_step, hash_from_none, hash_at_long}
use Rattle.gnu_check_hashes.proofs.hashes.hash_at.Goals as goal

pub returns-then-strings-gt-LIMIT : goal.returns-then-strings-gt-LIMIT
returns-then-strings-gt-LIMIT c = sym (hash_at_long c.args.strings.now c.args.offset c.if-strings-gt-LIMIT.true)

pub returns-in_default : goal.returns-in_default
returns-in_default c =
    let s = c.args.strings.now in
    let past : length s ≤ c.args.offset = grind (arith, c.in_default.ensures) in
    sym (hash_from_none 5381 s c.args.offset past) ∙ hash_from_start s c.args.offset c.if-strings-gt-LIMIT.false

pub loop-b-init : goal.loop-b-init
loop-b-init c =
    let s = c.args.strings.now in
    let rest : c.in-Some.rest.now ≡ drop c.args.offset s = c.in-Some.ensures.lookup.0.2 ∙ take_rest s c.args.offset in
    ap (hash_from 5381) rest ∙ hash_from_start s c.args.offset c.if-strings-gt-LIMIT.false

pub returns-then-b-eq0 : goal.returns-then-b-eq0
returns-then-b-eq0 c =
    sym (hash_from_end c.loop-b.h c.in-Some.rest.now c.loop-b.b-index c.loop-b-test.true c.if-b-eq0.true) ∙ c.loop-b.invariant

pub loop-b-preserved : goal.loop-b-preserved
loop-b-preserved c =
    rw c.gnu_step-h.ensures
    (sym (hash_from_step c.loop-b.h c.in-Some.rest.now c.loop-b.b-index c.loop-b-test.true c.if-b-eq0.false) ∙ c.loop-b.invariant)

pub returns : goal.returns
returns c = sym (hash_from_none c.loop-b.h c.in-Some.rest.now c.loop-b.b-index c.loop-b-test.false) ∙ c.loop-b.invariant
