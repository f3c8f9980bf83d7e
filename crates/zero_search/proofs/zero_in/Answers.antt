-- `zero_search::zero_in` meets its contract: what is passed over has no zero, and at the end nothing stands. Assumes nothing.
use Rattle.std.proofs.Common.{rules, arith, length, ◌-◌, ◌∙◌, sym}
use Rattle.zero_search.proofs.Finding.{first_drop, first_stands, first_within}
use Rattle.zero_search.proofs.zero_in.Goals as goal

pub returns-then-rest-ge-FEW-clause-within : goal.returns-then-rest-ge-FEW-clause-within
returns-then-rest-ge-FEW-clause-within c = omega (arith, c.wide_search.ensures, first_within c.args.rest.now)

pub returns-then-rest-le-NEAR-clause-found : goal.returns-then-rest-le-NEAR-clause-found
returns-then-rest-le-NEAR-clause-found c =
    let after = c.zero_before.ensures in
    omega (arith, first_stands c.args.rest.now c.zero_before.result (search rules) after.found ∙ sym after.passed)

pub returns-then-rest-clause-found : goal.returns-then-rest-clause-found
returns-then-rest-clause-found c =
    let near = c.zero_before-near.ensures in
    let after = c.zero_before-then-rest.ensures in
    omega (arith, first_stands c.args.rest.now c.zero_before-then-rest.result (search rules) after.found ∙ sym (near.passed ∙ after.passed))

pub returns-clause-found : goal.returns-clause-found
returns-clause-found c =
    let s = c.args.rest.now in
    let near = c.zero_before-near.ensures in
    let after = c.zero_before-2.ensures in
    let last = first_stands s c.zero_before-2.result (search rules) after.found ∙ sym after.passed in
    omega (arith, last, first_drop (length s - 16) s (omega (arith, near.passed)))
