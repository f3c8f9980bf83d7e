-- What the fields of a symbol say (gABI, "Symbol Table").
--     bind_of, type_of, visibility_of         ELF_ST_BIND, ELF_ST_TYPE, ELF_ST_VISIBILITY
--     is_undefined, is_common, is_absolute    by its section number: SHN_UNDEF, SHN_COMMON, SHN_ABS
--     is_local, is_weak                       by its binding: STB_LOCAL, STB_WEAK
-- Assumes nothing.
use Rattle.std.specs.Prelude.{ℕ, ◌/◌, ◌%◌, Bool, eqb}
use Rattle.symbol_entry.specs.declared.Symbol.{Symbol}

abbrev pub bind_of : Symbol → ℕ
bind_of symbol = symbol.info / 16

abbrev pub type_of : Symbol → ℕ
type_of symbol = symbol.info % 16

abbrev pub visibility_of : Symbol → ℕ
visibility_of symbol = symbol.other % 4

abbrev pub is_undefined : Symbol → Bool
is_undefined symbol = eqb symbol.shndx 0

abbrev pub is_common : Symbol → Bool
is_common symbol = eqb symbol.shndx 0xfff2

abbrev pub is_absolute : Symbol → Bool
is_absolute symbol = eqb symbol.shndx 0xfff1

abbrev pub is_local : Symbol → Bool
is_local symbol = eqb (bind_of symbol) 0

abbrev pub is_weak : Symbol → Bool
is_weak symbol = eqb (bind_of symbol) 2
