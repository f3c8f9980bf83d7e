-- A string of a string table: it runs from its offset to the next zero byte (01, module 1; gABI, "String Table").
--     string_at        the string at an offset, as a place
--     string_equals    whether the string at an offset can be read and is the name
-- Assumes nothing.
use Rattle.std.specs.Prelude.{ℕ, Bool, false, cond, List, ltb, length, take, drop, Result, Ok, Err}
use Rattle.endian.specs.First.{first, is_zero, readable, same}
use Rattle.endian.specs.Refusals.{limit, too_long, no_string}
use Rattle.endian.specs.declared.refusals.Refusal.{Refusal}
use Rattle.strings.specs.declared.Place.{Place}

abbrev pub string_at : List ℕ → ℕ → Result Place Refusal
string_at strings offset =
    cond (ltb limit (length strings)) (Err too_long)
    (cond (readable (drop offset strings)) (Ok (record { start = offset; len = first is_zero (drop offset strings) }))
    (Err no_string))

-- of what was read at an offset: a string, and equal to the name
abbrev pub is_name : List ℕ → List ℕ → Result Place Refusal → Bool
is_name strings name (Ok p) = same (take p.len (drop p.start strings)) name
is_name strings name (Err r) = false

unfoldable pub string_equals : List ℕ → ℕ → List ℕ → Bool
string_equals strings offset name = is_name strings name (string_at strings offset)
