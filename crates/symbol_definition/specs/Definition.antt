-- Whether a symbol is a definition.
--     reserved_section             a section number that is no section's: undefined, or from SHN_LORESERVE on but for SHN_XINDEX
--     starts_with_dollar           whether the string at an offset can be read and starts with `$`
--     is_definition, definition    symbol.rs, `Sym::is_definition`, and the same as an answer
-- Assumes nothing.
use Rattle.std.specs.Prelude.{ℕ, Bool, true, false, cond, not, ◌&&◌, List, eqb, ltb, leb, length, get_or, Result, Ok, Err}
use Rattle.endian.specs.Refusals.{limit, too_long}
use Rattle.strings.specs.Strings.{string_at}
use Rattle.endian.specs.declared.refusals.Refusal.{Refusal}
use Rattle.strings.specs.declared.Place.{Place}
use Rattle.symbol_entry.specs.declared.Symbol.{Symbol}
use Rattle.symbol_entry.specs.Entry.{type_of, is_local}

unfoldable pub reserved_section : ℕ → Bool
reserved_section shndx = cond (eqb shndx 0) true (leb 0xff00 shndx && not (eqb shndx 0xffff))

-- of what was read at an offset
abbrev pub dollar : List ℕ → Result Place Refusal → Bool
dollar strings (Ok place) = cond (eqb place.len 0) false (eqb (get_or strings place.start 0) 36)
dollar strings (Err r) = false

unfoldable pub starts_with_dollar : List ℕ → ℕ → Bool
starts_with_dollar strings offset = dollar strings (string_at strings offset)

-- no reserved section; then by its type: a function (2) or an object (1), or none (0) and, if it is local, no mapping symbol's name
abbrev pub is_definition : List ℕ → Symbol → Bool
is_definition strings symbol =
    cond (reserved_section symbol.shndx) false
    (cond (eqb (type_of symbol) 2) true
    (cond (eqb (type_of symbol) 1) true
    (cond (eqb (type_of symbol) 0) (cond (is_local symbol) (not (starts_with_dollar strings symbol.name)) true)
    false)))

abbrev pub definition : List ℕ → Symbol → Result Bool Refusal
definition strings symbol = cond (ltb limit (length strings)) (Err too_long) (Ok (is_definition strings symbol))
