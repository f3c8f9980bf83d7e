-- A lookup by what was read of its parts.
--     filter_any              the bloom filter does not ask how many symbols there are
--     find_by, find_by_lem    the lookup, by whether a part is too long, the symbols and the header
-- Assumes nothing.
use Rattle.std.proofs.Common.{ℕ, ◌≡◌, refl, Bool, true, false, cond, List, [], ◌∷◌, ltb, length, Result, Ok, Err}
use mathlib.Core.Option.{Option, some, none}
use Rattle.endian.specs.declared.kinds.Class.{Class}
use Rattle.endian.specs.declared.kinds.Order.{Order}
use Rattle.endian.specs.declared.refusals.Refusal.{Refusal}
use Rattle.endian.specs.Refusals.{limit, any_long, too_long, unless_refused}
use Rattle.symbol.specs.Table.{symbols_in, symbol_count}
use Rattle.lookup.specs.declared.Lookup.{Lookup}
use Rattle.lookup.specs.Wanted.{Parts, Asked, all_parts, wanted}
use Rattle.gnu_table.specs.declared.header.Layout.{Layout}
use Rattle.gnu_table.specs.Table.{bloom_first, bloom_second, bloom_filter}
use Rattle.gnu_table.specs.Header.{gnu_fault, layout_of, gnu_header}
use Rattle.gnu_table.specs.Places.{table_at}
use Rattle.gnu.specs.Find.{gnu_find}
use Rattle.gnu.specs.Lookup.{start_of, gnu_lookup}

pub filter_any : (class : Class) (order : Order) (table : List ℕ) (layout : Layout) (count h : ℕ)
    → bloom_filter (table_at class order table layout 0) h ≡ bloom_filter (table_at class order table layout count) h
unfolding bloom_filter bloom_first bloom_second
filter_any class order table layout count h = refl

abbrev pub find_by : (any_long : Bool) → Result ℕ Refusal → Result Layout Refusal → (Layout → ℕ → Result Lookup Refusal)
    → Result Lookup Refusal
find_by true counted header look = Err too_long
find_by false (Err r) header look = Err r
find_by false (Ok n) (Err r) look = Err r
find_by false (Ok n) (Ok layout) look = look layout n

-- the parts may be tested in any order, for each is refused alike
any_order : (table_long symbols_long rest_long : Bool) (o : Option Refusal) (n : ℕ) (layout : Layout) (look : Layout → ℕ → Result Lookup Refusal)
    → cond (cond table_long true (cond symbols_long true rest_long)) (Err too_long) (unless_refused Err o (look layout n))
    ≡ find_by (cond table_long true (cond symbols_long true rest_long)) (cond symbols_long (Err too_long) (Ok n))
    (cond table_long (Err too_long) (unless_refused Err o (Ok layout))) look
any_order true true true o n layout look = refl
any_order true true false o n layout look = refl
any_order true false true o n layout look = refl
any_order true false false o n layout look = refl
any_order false true true o n layout look = refl
any_order false true false o n layout look = refl
any_order false false true o n layout look = refl
any_order false false false none n layout look = refl
any_order false false false (some r) n layout look = refl

module _ (class : Class) (order : Order) (p : Parts) (asked : Asked) (hash : ℕ) where
  abbrev pub look_in : Layout → ℕ → Result Lookup Refusal
  look_in layout n = gnu_lookup (table_at class order p.table layout n) hash (wanted class order p asked)

  pub find_by_lem : gnu_find class order p asked hash
      ≡ find_by (any_long (all_parts p asked)) (symbol_count class p.symbols) (gnu_header class order p.table) look_in
  unfolding gnu_find gnu_header gnu_lookup bloom_filter bloom_first bloom_second start_of
  find_by_lem =
      any_order (ltb limit (length p.table)) (ltb limit (length p.symbols))
      (any_long (p.strings ∷ p.versyms ∷ p.version_strings ∷ asked.name ∷ asked.need_name ∷ [])) (gnu_fault class order p.table)
      (symbols_in class p.symbols) (layout_of class order p.table) look_in
