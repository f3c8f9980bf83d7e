-- The name of a symbol, by the length of its strings: the symbols' own length is `symbol_at`'s to refuse. Assumes nothing.
--     symbol_name_long, symbol_name_fits    the strings are too long, or fit
use Rattle.std.proofs.Common.{ℕ, ◌<◌, ◌≤◌, ◌≡◌, refl, Bool, true, false, cond, List, ltb, length, lt-ltb, le-ltb, Result, Err}
use Rattle.endian.specs.declared.kinds.Class.{Class}
use Rattle.endian.specs.declared.kinds.Order.{Order}
use Rattle.endian.specs.Refusals.{limit, too_long}
use Rattle.endian.specs.declared.refusals.Refusal.{Refusal}
use Rattle.strings.specs.declared.Place.{Place}
use Rattle.symbol_entry.specs.declared.Symbol.{Symbol}
use Rattle.symbol.specs.declared.table.SymbolIndex.{SymbolIndex}
use Rattle.symbol.specs.Table.{symbol_at, symbol_name, name_in}

module _ (class : Class) (order : Order) (symbols strings : List ℕ) (index : SymbolIndex) where
  pub symbol_name_long : limit < length strings → symbol_name class order symbols strings index ≡ Err too_long
  symbol_name_long long = rw (lt-ltb limit (length strings) long) (by (ltb limit (length symbols)))
    where
      by : (t : Bool)
          → cond (cond t true true) (Err too_long) (name_in strings (symbol_at class order symbols index))
          ≡ Err too_long
      by true = refl
      by false = refl

  pub symbol_name_fits : length strings ≤ limit
      → symbol_name class order symbols strings index ≡ name_in strings (symbol_at class order symbols index)
  unfolding symbol_at
  symbol_name_fits fits = rw (le-ltb limit (length strings) fits) (by (ltb limit (length symbols)) _)
    where
      by : (t : Bool) (rest : Result Symbol Refusal)
          → cond (cond t true false) (Err too_long) (name_in strings (cond t (Err too_long) rest))
          ≡ name_in strings (cond t (Err too_long) rest)
      by true rest = refl
      by false rest = refl
