-- `readable_names::lowest_unreadable` meets its contract: `find` answers the first symbol whose name cannot be read. Assumes
-- nothing.
use Rattle.std.proofs.Common.{not, ap, sym, ◌∙◌, option_map, rules}
use Rattle.symbol.specs.Table.{symbol_index}
use Rattle.readable_names.specs.Readable.{readable_in}
use Rattle.readable_names.proofs.Reading.{name_readable_lem}
use Rattle.lookup.proofs.Searching.{first_found}
use Rattle.readable_names.proofs.lowest_unreadable.Goals as goal

pub returns : goal.returns
returns c =
    let a = c.args in
    search rules
    ∙ ap (option_map symbol_index)
    (first_found _ _ _ _ (λ i. not (readable_in a.class a.order a.symbols.now a.strings.now i)) c.find.ensures.ran
    (λ x b q called. (
      search rules,
      ap not (name_readable_lem a.class a.order a.symbols.now a.strings.now x)
          ∙ rw (sym c.readable_end-end.ensures) (search rules),
    )))
