-- Need not be believed: which names of symbols can be read, as the pass for G6 and T2 asks it (01, "GNU checker" and "SysV
-- checker"). Both checkers are proved to be their rules through it.
--     readable_in     a symbol's name can be read
--     readable_end    the place before which a string that can be read starts
--     starts_below    of a symbol that was looked for: its name starts below a place
-- Assumes nothing.
use Rattle.std.specs.Prelude.{ℕ, Bool, false, cond, not, List, ltb, length, Result, Ok, Err}
use Rattle.endian.specs.declared.kinds.Class.{Class}
use Rattle.endian.specs.declared.kinds.Order.{Order}
use Rattle.endian.specs.Refusals.{limit}
use Rattle.strings.specs.AfterZero.{after_zero}
use Rattle.endian.specs.declared.refusals.Refusal.{Refusal}
use Rattle.symbol_entry.specs.declared.Symbol.{Symbol}
use Rattle.lookup.specs.Pick.{is_none}
use Rattle.lookup.specs.Wanted.{name_of}

abbrev pub readable_in : Class → Order → (symbols strings : List ℕ) → ℕ → Bool
readable_in class order symbols strings i = not (is_none (name_of class order symbols strings i))

abbrev pub readable_end : (strings : List ℕ) → ℕ
readable_end strings = cond (ltb limit (length strings)) 0 (after_zero strings)

abbrev pub starts_below : ℕ → Result Symbol Refusal → Bool
starts_below end (Ok entry) = ltb entry.name end
starts_below end (Err r) = false
