-- A table of symbols, as the gABI and document 01's "Layouts" lay them out.
--     symbol_index    the symbol number of a number
--     symbol_size     the bytes of a record
--     symbols_in      n: how many whole records there are
--     symbol_of       the fields of the record at a place
--     symbol_count    the same, unless the symbols are too long
--     symbol_at       the symbol of a number
--     symbol_name     the name of the symbol of a number
-- Assumes nothing.
use Rattle.std.specs.Prelude.{ℕ, ◌+◌, ◌*◌, ◌/◌, cond, List, [], ◌∷◌, eqb, leb, ltb, length, Result, Ok, Err}
use Rattle.endian.specs.declared.kinds.Class.{Class}
use Rattle.endian.specs.declared.kinds.Class.TheVariants.{Elf32, Elf64}
use Rattle.endian.specs.declared.kinds.Order.{Order}
use Rattle.endian.specs.Refusals.{limit, any_long, too_long, no_symbol}
use Rattle.endian.specs.Word.{field_at}
use Rattle.strings.specs.Strings.{string_at}
use Rattle.endian.specs.declared.refusals.Refusal.{Refusal}
use Rattle.strings.specs.declared.Place.{Place}
use Rattle.symbol_entry.specs.declared.Symbol.{Symbol}
use Rattle.symbol.specs.declared.table.SymbolIndex.{SymbolIndex}

abbrev pub symbol_index : ℕ → SymbolIndex
symbol_index i = record { 0 = i }

abbrev pub symbol_size : Class → ℕ
symbol_size Elf32 = 16
symbol_size Elf64 = 24

abbrev pub symbols_in : Class → (symbols : List ℕ) → ℕ
symbols_in class symbols = length symbols / symbol_size class

-- Sym32 and Sym64 of document 01: the width of each field, and where it stands
abbrev pub symbol_of : Class → Order → List ℕ → (base : ℕ) → Symbol
symbol_of Elf32 order s base =
    let f = field_at order s base in
    record { name = f 4 0; value = f 4 4; size = f 4 8; info = f 1 12; other = f 1 13; shndx = f 2 14 }
symbol_of Elf64 order s base =
    let f = field_at order s base in
    record { name = f 4 0; info = f 1 4; other = f 1 5; shndx = f 2 6; value = f 8 8; size = f 8 16 }

abbrev pub symbol_count : Class → List ℕ → Result ℕ Refusal
symbol_count class s = cond (ltb limit (length s)) (Err too_long) (Ok (symbols_in class s))

-- number 0 is refused, as is one past the whole records
unfoldable pub symbol_at : Class → Order → List ℕ → SymbolIndex → Result Symbol Refusal
symbol_at class order s index =
    cond (ltb limit (length s)) (Err too_long)
    (cond (eqb index.0 0) (Err no_symbol)
    (cond (leb ((index.0 + 1) * symbol_size class) (length s)) (Ok (symbol_of class order s (index.0 * symbol_size class)))
    (Err no_symbol)))

-- the name of a symbol that was looked for: its string, or why there is no symbol
abbrev pub name_in : List ℕ → Result Symbol Refusal → Result Place Refusal
name_in strings (Ok symbol) = string_at strings symbol.name
name_in strings (Err r) = Err r

abbrev pub symbol_name : Class → Order → List ℕ → List ℕ → SymbolIndex → Result Place Refusal
symbol_name class order symbols strings index =
    cond (any_long (symbols ∷ strings ∷ [])) (Err too_long)
    (name_in strings (symbol_at class order symbols index))
