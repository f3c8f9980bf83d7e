-- The name of a symbol, by the record that stands at its number. Assumes nothing.
--     name_at, name_none    its bytes: those of the record's string, and none where there is no record
--     named_at_lem          whether it is a name: what the record's string says, and no where there is no record
use Rattle.std.proofs.Common.{ℕ, ◌≡◌, refl, sym, ap, ◌∙◌, Bool, false, List, ltb, length, ltb-true, ltb-false, Result, Ok, Err}
use mathlib.Core.Option.{none}
use Rattle.endian.specs.declared.kinds.Class.{Class}
use Rattle.endian.specs.declared.kinds.Order.{Order}
use Rattle.endian.specs.declared.refusals.Refusal.{Refusal}
use Rattle.endian.specs.Refusals.{limit}
use Rattle.strings.specs.declared.Place.{Place}
use Rattle.strings.specs.Strings.{is_name, string_at, string_equals}
use Rattle.symbol_entry.specs.declared.Symbol.{Symbol}
use Rattle.symbol.specs.Table.{symbol_at, name_in, symbol_index}
use Rattle.symbol.proofs.Names.{symbol_name_long, symbol_name_fits}
use Rattle.lookup.specs.Wanted.{name_of, bytes_of, is_named}
use Rattle.lookup.proofs.Picking.{by-test}

module _ (class : Class) (order : Order) (symbols strings : List ℕ) (i : ℕ) where
  pub name_at : (entry : Symbol) → symbol_at class order symbols (symbol_index i) ≡ Ok entry
      → name_of class order symbols strings i ≡ bytes_of strings (string_at strings entry.name)
  unfolding name_of
  name_at entry there =
      by-test (ltb limit (length strings))
      (λ long. ap (bytes_of strings) (symbol_name_long class order symbols strings (symbol_index i)
      (ltb-true limit (length strings) long))
      ∙ sym (rw long))
      (λ short. ap (bytes_of strings)
      (symbol_name_fits class order symbols strings (symbol_index i) (ltb-false limit (length strings) short)
      ∙ ap (name_in strings) there))

  pub name_none : (r : Refusal) → symbol_at class order symbols (symbol_index i) ≡ Err r
      → name_of class order symbols strings i ≡ none
  unfolding name_of
  name_none r none_there =
      by-test (ltb limit (length strings))
      (λ long. ap (bytes_of strings) (symbol_name_long class order symbols strings (symbol_index i)
      (ltb-true limit (length strings) long)))
      (λ short. ap (bytes_of strings)
      (symbol_name_fits class order symbols strings (symbol_index i) (ltb-false limit (length strings) short)
      ∙ ap (name_in strings) none_there))

abbrev pub named_at : (strings name : List ℕ) → Result Symbol Refusal → Bool
named_at strings name (Ok entry) = string_equals strings entry.name name
named_at strings name (Err r) = false

is_named_lem : (strings name : List ℕ) (s : Result Place Refusal) → is_named name (bytes_of strings s) ≡ is_name strings name s
is_named_lem strings name (Ok place) = refl
is_named_lem strings name (Err r) = refl

equals_named : (strings name : List ℕ) (at : ℕ)
    → is_named name (bytes_of strings (string_at strings at)) ≡ string_equals strings at name
unfolding string_equals
equals_named strings name at = is_named_lem strings name (string_at strings at)

pub named_at_lem : (class : Class) (order : Order) (symbols strings name : List ℕ) (i : ℕ)
    → is_named name (name_of class order symbols strings i)
    ≡ named_at strings name (symbol_at class order symbols (symbol_index i))
named_at_lem class order symbols strings name i = by (symbol_at class order symbols (symbol_index i)) refl
  where
    by : (s : Result Symbol Refusal) → symbol_at class order symbols (symbol_index i) ≡ s
        → is_named name (name_of class order symbols strings i) ≡ named_at strings name s
    by (Ok entry) e =
        ap (is_named name) (name_at class order symbols strings i entry e) ∙ equals_named strings name entry.name
    by (Err r) e = ap (is_named name) (name_none class order symbols strings i r e)
