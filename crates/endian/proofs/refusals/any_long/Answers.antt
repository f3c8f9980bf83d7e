-- `endian::refusals::any_long` meets its contract: `any` answers whether a part passes the test. Assumes nothing.
use Rattle.std.proofs.Common.{◌∙◌, length, nat_lt, rules, tests}
use Rattle.std.proofs.lemmas.Iterator.{YieldsList-from_slice}
use Rattle.std.proofs.lemmas.Iterator.Search.{any_from_yields_List}
use Rattle.endian.specs.Refusals.{limit}
use Rattle.endian.proofs.Long.{any_long_lem}
use Rattle.endian.proofs.refusals.any_long.Goals as goal

pub returns : goal.returns
returns c =
    any_from_yields_List (λ p. nat_lt limit (length p.now)) _ _ _ c.any.ensures.ran
    (YieldsList-from_slice c.args.parts.now c.iter.ensures.rest) (λ x b q k. search (rules, tests))
    ∙ any_long_lem c.args.parts.now
