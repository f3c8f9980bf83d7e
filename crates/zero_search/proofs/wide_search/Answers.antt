-- `zero_search::wide_search` meets its contract: what the kit's iterator takes first is the first zero. Assumes nothing.
use Rattle.std.proofs.Common.{◌∙◌, rules}
use Rattle.zero_search.proofs.Finding.{first_taken}
use Rattle.zero_search.proofs.wide_search.Goals as goal

pub returns : goal.returns
returns c = c.unwrap_or.ensures ∙ first_taken c.args.rest.now c.next.result c.next.new.self (search rules)
