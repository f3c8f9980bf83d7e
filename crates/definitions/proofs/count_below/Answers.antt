-- `definitions::count_below` meets its contract: the numbers that pass are counted. Assumes nothing.
use Rattle.std.proofs.Common.{◌-◌, ◌∙◌, refl, rules}
use Rattle.std.proofs.lemmas.Iterator.{YieldsList-from_range}
use Rattle.std.proofs.lemmas.Iterator.Consumers.{YieldsList-from_filter, count_from_yields_List}
use Rattle.definitions.specs.Definitions.{defines_in}
use Rattle.definitions.proofs.Counting.{counted}
use Rattle.definitions.proofs.count_below.Goals as goal

pub returns : goal.returns
returns c =
    let a = c.args in
    let s = a.searched in
    let defines = defines_in s.class s.order s.symbols.now s.strings.now s.versyms.now s.name.now a.which in
    count_from_yields_List _ _ c.count.ensures.ran
    (YieldsList-from_filter _ defines (YieldsList-from_range 1 a.end (a.end - 1) (cc) refl) c.filter.ensures.closure
    (λ x b q called. search rules))
    ∙ counted defines a.end
