-- The definitions of a name, among all symbols.
--     is_defined        whether a symbol that was looked for is there and is not undefined
--     has_no_version    whether a versym says that the definition has no version: its index is special
--     meant             whether a definition with this versym is one of those that are meant
--     defines_in        whether a symbol bears the name, is not undefined, and is one of those that are meant
--     count_in          how many of the numbers 1 to n - 1 pass a test
--     definitions_of    how many symbols but the null one are such definitions
-- Assumes nothing.
use Rattle.std.specs.Prelude.{ℕ, ◌-◌, Bool, true, false, cond, not, ◌&&◌, List, [], ◌∷◌, length, Result, Ok, Err}
use Rattle.endian.specs.declared.kinds.Class.{Class}
use Rattle.endian.specs.declared.kinds.Order.{Order}
use Rattle.endian.specs.Refusals.{any_long, too_long}
use Rattle.symbol_entry.specs.Entry.{is_undefined}
use Rattle.endian.specs.declared.refusals.Refusal.{Refusal}
use Rattle.symbol_entry.specs.declared.Symbol.{Symbol}
use Rattle.symbol.specs.Table.{symbol_at, symbols_in, symbol_index}
use Rattle.version.specs.declared.table.Versym.{Versym}
use Rattle.version.specs.Index.{is_special}
use Rattle.version.specs.Table.{versym_at}
use Rattle.lookup.specs.Pick.{from, select}
use Rattle.lookup.specs.Wanted.{name_of, is_named}
use Rattle.definitions.specs.declared.Which.{Which}
use Rattle.definitions.specs.declared.Which.TheVariants.{All, Unversioned}

abbrev pub is_defined : Result Symbol Refusal → Bool
is_defined (Ok symbol) = not (is_undefined symbol)
is_defined (Err r) = false

abbrev pub has_no_version : Result Versym Refusal → Bool
has_no_version (Ok versym) = is_special versym.index
has_no_version (Err r) = false

abbrev pub meant : Which → Result Versym Refusal → Bool
meant All versym = true
meant Unversioned versym = has_no_version versym

unfoldable pub defines_in : Class → Order → (symbols strings versyms name : List ℕ) → Which → ℕ → Bool
defines_in class order symbols strings versyms name which i =
    is_named name (name_of class order symbols strings i)
    && (is_defined (symbol_at class order symbols (symbol_index i)) && meant which (versym_at order versyms (symbol_index i)))

unfoldable pub count_in : (ℕ → Bool) → ℕ → ℕ
count_in p n = length (select p (from 1 (n - 1)))

abbrev pub definitions_of : Class → Order → (symbols strings versyms name : List ℕ) → Which → Result ℕ Refusal
definitions_of class order symbols strings versyms name which =
    cond (any_long (strings ∷ versyms ∷ name ∷ symbols ∷ [])) (Err too_long)
    (Ok (count_in (defines_in class order symbols strings versyms name which) (symbols_in class symbols)))
