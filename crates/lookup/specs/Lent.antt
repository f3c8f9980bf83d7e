-- Need not be believed: what a lookup is lent and asked, by what stands behind its references. Inner contracts cite it.
--     parts_of    the parts
--     asked_of    what is asked for
-- Assumes nothing.
use Rattle.lookup.specs.declared.Parts.{Parts as LentParts}
use Rattle.lookup.specs.declared.Asked.{Asked as LentAsked}
use Rattle.lookup.specs.Wanted.{Parts, Asked}

abbrev pub parts_of : LentParts → Parts
parts_of lent = record {
  table = lent.table.now;
  symbols = lent.symbols.now;
  strings = lent.strings.now;
  versyms = lent.versyms.now;
  store = lent.store.now;
  version_strings = lent.version_strings.now;
}

abbrev pub asked_of : LentAsked → Asked
asked_of lent = record { name = lent.name.now; need = lent.need; need_name = lent.need_name.now }
