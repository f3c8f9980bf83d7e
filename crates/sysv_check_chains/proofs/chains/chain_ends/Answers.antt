-- `sysv_check_chains::chains::chain_ends` meets its contract: it is the walk along the chain by numbers in range. Assumes nothing.
use Rattle.std.proofs.Common.{is_some, ap, ◌∙◌, rules, tests, arith}
use Rattle.sysv_check_chains.specs.Pass.{in_range}
use Rattle.sysv_check_chains.proofs.chains.chain_ends.Goals as goal

pub returns : goal.returns
returns c =
    c.is_some.ensures
    ∙ ap is_some (c.follow.ensures (in_range c.args.chains.first.0 c.args.chains.count) (λ i b low called. grind (arith, tests)))
