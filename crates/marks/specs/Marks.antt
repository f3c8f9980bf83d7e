-- The marks of an import: what is against signing it, beside document 01's answer.
--     no_entry_marks                      where no symbol is found
--     marks_by, found_marks, marks_with, marks_for    of a need, the counts and an answer
--     marks_of                            of an import and its answer; 1 for a part or a name too long
--     any_mark                            whether the line is not to be signed
-- Assumes nothing.
use Rattle.std.specs.Prelude.{ℕ, Bool, false, cond, ◌||◌, List, [], ◌∷◌, ltb, Result, Ok, Err, Option, Some, None}
use Rattle.endian.specs.declared.kinds.Class.{Class}
use Rattle.endian.specs.declared.kinds.Order.{Order}
use Rattle.endian.specs.Refusals.{any_long, too_long}
use Rattle.marks_entry.specs.declared.EntryMarks.{EntryMarks}
use Rattle.marks_entry.specs.Marks.{entry_marks, any_entry_mark}
use Rattle.endian.specs.declared.refusals.Refusal.{Refusal}
use Rattle.symbol_entry.specs.declared.Symbol.{Symbol}
use Rattle.symbol.specs.declared.table.SymbolIndex.{SymbolIndex}
use Rattle.symbol.specs.Table.{symbol_at, symbols_in}
use Rattle.version_match.specs.declared.Need.{Need}
use Rattle.lookup.specs.declared.Lookup.{Lookup}
use Rattle.definitions.specs.declared.Which.TheVariants.{All, Unversioned}
use Rattle.marks.specs.declared.Marks.{Marks}
use Rattle.definitions.specs.Definitions.{defines_in, count_in}

abbrev pub no_entry_marks : EntryMarks
no_entry_marks = record { undefined = false; local = false; hidden = false; ifunc = false }

-- no version is stated, and there is more than one definition; or one is stated, and there is a definition without
abbrev pub marks_by : Need → (definitions unversioned : ℕ) → (unfound : Bool) → EntryMarks → Marks
marks_by Need.Any definitions unversioned unfound found =
    record { several = ltb 1 definitions; unversioned = false; unfound = unfound; found = found }
marks_by (Need.Hash hash) definitions unversioned unfound found =
    record { several = false; unversioned = ltb 0 unversioned; unfound = unfound; found = found }

abbrev pub found_marks : Need → (definitions unversioned : ℕ) → Result Symbol Refusal → Result Marks Refusal
found_marks need definitions unversioned (Ok symbol) = Ok (marks_by need definitions unversioned false (entry_marks symbol))
found_marks need definitions unversioned (Err r) = Err r

abbrev pub marks_with : Class → Order → (symbols : List ℕ) → Need → (definitions unversioned : ℕ) → Option SymbolIndex
    → Result Marks Refusal
marks_with class order symbols need definitions unversioned (Some symbol) =
    found_marks need definitions unversioned (symbol_at class order symbols symbol)
marks_with class order symbols need definitions unversioned None =
    Ok (marks_by need definitions unversioned (ltb 0 definitions) no_entry_marks)

abbrev pub marks_for : Class → Order → (symbols : List ℕ) → Need → (definitions unversioned : ℕ) → Result Lookup Refusal
    → Result Marks Refusal
marks_for class order symbols need definitions unversioned (Ok lookup) =
    marks_with class order symbols need definitions unversioned lookup.symbol
marks_for class order symbols need definitions unversioned (Err r) = Err r

unfoldable pub marks_of : Class → Order → (symbols strings versyms name : List ℕ) → Need → Result Lookup Refusal → Result Marks Refusal
marks_of class order symbols strings versyms name need answer =
    let symbol_count = symbols_in class symbols in
    cond (any_long (strings ∷ versyms ∷ name ∷ symbols ∷ [])) (Err too_long)
    (marks_for class order symbols need
    (count_in (defines_in class order symbols strings versyms name All) symbol_count)
    (count_in (defines_in class order symbols strings versyms name Unversioned) symbol_count)
    answer)

abbrev pub any_mark : Marks → Bool
any_mark marks = marks.several || (marks.unversioned || (marks.unfound || any_entry_mark marks.found))
