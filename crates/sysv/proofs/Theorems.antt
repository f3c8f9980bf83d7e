-- What a SysV lookup finds, in any table, accepted or not (demand 3, last sentence).
--     find_wanted    it is wanted
--     find_bound     it has the name, and its version matches the need
--     find_one       two lookups over the same parts that each state a version and get one symbol ask for the same
-- Assumes nothing.
use Rattle.std.proofs.Common.{ℕ, ◌%◌, ◌≡◌, ap, Bool, true, false, cond, eqb, Ok, Err}
use mathlib.Core.Option.{Option, some, none}
use Rattle.symbol.specs.Table.{symbol_index}
use Rattle.endian.specs.declared.kinds.Class.{Class}
use Rattle.endian.specs.declared.kinds.Order.{Order}
use Rattle.endian.specs.declared.refusals.Refusal.{Refusal}
use Rattle.endian.specs.Refusals.{any_long, too_long, unless_refused}
use Rattle.version_match.specs.Match.{matching}
use Rattle.lookup.specs.Matches.{OneAsked}
use Rattle.lookup.specs.Wanted.{Parts, Asked, all_parts, name_of, wanted, found as found_at, missing, walk}
use Rattle.lookup.proofs.Distinct.{wanted_named, wanted_fits, wanted_one, walk_wanted}
use Rattle.sysv_header.specs.Header.{sysv_fault}
use Rattle.sysv.specs.Table.{SysvTable, numbers, sysv_lookup}
use Rattle.sysv.specs.Find.{sysv_table, sysv_find}

lookup_wanted : (t : SysvTable) (hash : ℕ) (match : ℕ → Bool) (i probes : ℕ) → sysv_lookup t hash match ≡ found_at (symbol_index i) probes
    → match i ≡ true
unfolding sysv_lookup
lookup_wanted t hash match i probes h = by (eqb t.bucket_count 0) h
  where
    by : (b : Bool) → cond b (missing 0) (walk match (numbers t (hash % t.bucket_count))) ≡ found_at (symbol_index i) probes
        → match i ≡ true
    by true h = let symbols = ap (λ l. l.symbol) h in cc
    by false h = walk_wanted match (numbers t (hash % t.bucket_count)) i probes h

module _ (class : Class) (order : Order) (p : Parts) where
  module _ (asked : Asked) (hash i probes : ℕ) (found : sysv_find class order p asked hash ≡ Ok (found_at (symbol_index i) probes)) where
    pub find_wanted : wanted class order p asked i ≡ true
    unfolding sysv_find
    find_wanted = by (any_long (all_parts p asked)) (sysv_fault order p.table) found
      where
        by : (long : Bool) (o : Option Refusal)
            → cond long (Err too_long)
            (unless_refused Err o (Ok (sysv_lookup (sysv_table class order p) hash (wanted class order p asked))))
            ≡ Ok (found_at (symbol_index i) probes)
            → wanted class order p asked i ≡ true
        by true o h = cc
        by false (some r) h = cc
        by false none h = lookup_wanted (sysv_table class order p) hash (wanted class order p asked) i probes cc

    pub find_bound : (name_of class order p.symbols p.strings i ≡ some asked.name)
        × (matching order p.versyms p.store p.version_strings (symbol_index i) asked.need asked.need_name ≡ true)
    find_bound = (wanted_named class order p asked i find_wanted, wanted_fits class order p asked i find_wanted)

  pub find_one : OneAsked (sysv_find class order p)
  find_one asked asked' hash hash' needed needed' i probes probes' need need' found found' =
      wanted_one class order p asked asked' needed needed' i need need'
      (find_wanted asked hash i probes found) (find_wanted asked' hash' i probes' found')
