-- A symbol's name can be read exactly if there is such a symbol and its name starts below `readable_end`.
--     name_readable_lem    that
-- Assumes nothing.
use Rattle.std.proofs.Common.{ℕ, ◌≡◌, refl, sym, ap, ◌∙◌, Bool, true, false, cond, not, List, arith, ltb, length, drop, le-ltb, Result, Ok, Err}
use Rattle.endian.specs.declared.kinds.Class.{Class}
use Rattle.endian.specs.declared.kinds.Order.{Order}
use Rattle.endian.specs.First.{first, is_zero, readable}
use Rattle.endian.specs.Refusals.{limit, no_string}
use Rattle.endian.specs.declared.refusals.Refusal.{Refusal}
use Rattle.strings.specs.declared.Place.{Place}
use Rattle.strings.specs.Strings.{string_at}
use Rattle.strings.proofs.Readable.{readable_below}
use Rattle.symbol_entry.specs.declared.Symbol.{Symbol}
use Rattle.symbol.specs.Table.{symbol_at, symbol_index}
use Rattle.lookup.specs.Pick.{is_none}
use Rattle.lookup.specs.Wanted.{bytes_of}
use Rattle.lookup.proofs.Named.{name_at, name_none}
use Rattle.lookup.proofs.Picking.{by-test}
use Rattle.readable_names.specs.Readable.{readable_in, readable_end, starts_below}

some_read : (strings : List ℕ) (at : ℕ)
    → not (is_none (bytes_of strings (string_at strings at))) ≡ ltb at (readable_end strings)
some_read strings at =
    by-test (ltb limit (length strings)) (λ long. rw long (sym (le-ltb at 0 (omega arith))))
    (λ short. rw short (by (readable (drop at strings)) ∙ readable_below strings at))
  where
    by : (t : Bool)
        → not (is_none (bytes_of strings (cond {A = Result Place Refusal} t (Ok (record { start = at; len = first is_zero (drop at strings) })) (Err no_string)))) ≡ t
    by true = refl
    by false = refl

pub name_readable_lem : (class : Class) (order : Order) (symbols strings : List ℕ) (i : ℕ)
    → readable_in class order symbols strings i
    ≡ starts_below (readable_end strings) (symbol_at class order symbols (symbol_index i))
name_readable_lem class order symbols strings i = by (symbol_at class order symbols (symbol_index i)) refl
  where
    by : (s : Result Symbol Refusal) → symbol_at class order symbols (symbol_index i) ≡ s
        → readable_in class order symbols strings i ≡ starts_below (readable_end strings) s
    by (Ok entry) e =
        ap (λ o. not (is_none o)) (name_at class order symbols strings i entry e) ∙ some_read strings entry.name
    by (Err r) e = ap (λ o. not (is_none o)) (name_none class order symbols strings i r e)
