-- What the fields of a found symbol say against signing an import.
--     is_hidden         whether a visibility is that of a symbol that no other file sees
--     entry_marks       what the fields say
--     any_entry_mark    whether one of these marks holds
-- Assumes nothing.
use Rattle.std.specs.Prelude.{ℕ, Bool, ◌||◌, eqb}
use Rattle.symbol_entry.specs.declared.Symbol.{Symbol}
use Rattle.symbol_entry.specs.Entry.{type_of, visibility_of, is_undefined, is_local}
use Rattle.marks_entry.specs.declared.EntryMarks.{EntryMarks}

-- STV_INTERNAL and STV_HIDDEN
abbrev pub is_hidden : ℕ → Bool
is_hidden visibility = eqb visibility 1 || eqb visibility 2

-- STT_GNU_IFUNC is type 10
abbrev pub entry_marks : Symbol → EntryMarks
entry_marks symbol = record {
  undefined = is_undefined symbol;
  local = is_local symbol;
  hidden = is_hidden (visibility_of symbol);
  ifunc = eqb (type_of symbol) 10;
}

abbrev pub any_entry_mark : EntryMarks → Bool
any_entry_mark marks = marks.undefined || (marks.local || (marks.hidden || marks.ifunc))
