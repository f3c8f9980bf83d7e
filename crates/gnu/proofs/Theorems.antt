-- What a GNU lookup finds, in any table, accepted or not, and by any hash.
--     find_wanted, find_named, find_fits    what is found is wanted: it has the name that is asked for, and its version matches
--     find_one                              two lookups that each state a version and get one symbol asked for the same (demand 3,
--                                           last sentence)
-- Assumes nothing.
use Rattle.std.proofs.Common.{ℕ, ◌≡◌, ap, Bool, true, false, cond, ◌&&◌, eqb, Result, Ok, Err}
use mathlib.Core.Option.{Option, some, none}
use Rattle.symbol.specs.Table.{symbol_index}
use Rattle.endian.specs.declared.kinds.Class.{Class}
use Rattle.endian.specs.declared.kinds.Order.{Order}
use Rattle.endian.specs.declared.refusals.Refusal.{Refusal}
use Rattle.endian.specs.Refusals.{any_long, too_long, unless_refused}
use Rattle.version_match.specs.Match.{matching}
use Rattle.lookup.specs.declared.Lookup.{Lookup}
use Rattle.lookup.specs.Matches.{OneAsked}
use Rattle.lookup.specs.Wanted.{Parts, Asked, all_parts, name_of, wanted, found as found_at, missing}
use Rattle.lookup.proofs.Picking.{and_right}
use Rattle.lookup.proofs.Distinct.{wanted_named, wanted_fits, wanted_one, walk_wanted}
use Rattle.gnu_table.specs.Table.{GnuTable, value_of, same_but_low, bloom_filter}
use Rattle.gnu_table.specs.Header.{gnu_fault}
use Rattle.gnu.specs.Lookup.{gnu_chain, start_of, filtered, gnu_lookup}
use Rattle.gnu.specs.Find.{gnu_table, gnu_find}

module _ (i probes : ℕ) where
  abbrev here : Lookup
  here = found_at (symbol_index i) probes

  not_missing : (n : ℕ) (a : Lookup) → missing n ≡ here → a ≡ here
  not_missing n a h = let symbols = ap (λ l. l.symbol) h in cc

  past_filter : (f : Result Bool Refusal) (a : Lookup) → filtered f a ≡ Ok here → a ≡ here
  past_filter (Ok false) a h = let z : missing 0 ≡ here = cc in not_missing 0 a z
  past_filter (Err r) a h = cc
  past_filter (Ok true) a h = cc

  past_missing : (b : Bool) (n : ℕ) (a : Lookup) → cond b (missing n) a ≡ here → a ≡ here
  past_missing true n a h = not_missing n a h
  past_missing false n a h = h

  past_long : (b : Bool) (a : Result Lookup Refusal) → cond b (Err too_long) a ≡ Ok here → a ≡ Ok here
  past_long true a h = cc
  past_long false a h = h

  past_fault : (o : Option Refusal) (a : Result Lookup Refusal) → unless_refused Err o a ≡ Ok here → a ≡ Ok here
  past_fault none a h = h
  past_fault (some r) a h = cc

  lookup_wanted : (t : GnuTable) (h : ℕ) (match : ℕ → Bool) → gnu_lookup t h match ≡ Ok here → match i ≡ true
  unfolding gnu_lookup
  lookup_wanted t h match e =
      let tested : ℕ → Bool = λ j. same_but_low (value_of t j) h && match j in
      let s = start_of t h in
      let walked = past_missing (eqb s 0) 0 _ (past_filter (bloom_filter t h) _ e) in
      and_right (same_but_low (value_of t i) h) (match i) (walk_wanted tested (gnu_chain t s) i probes walked)

module _ (class : Class) (order : Order) (p : Parts) where
  module _ (asked : Asked) (hash i probes : ℕ) (found : gnu_find class order p asked hash ≡ Ok (found_at (symbol_index i) probes)) where
    pub find_wanted : wanted class order p asked i ≡ true
    unfolding gnu_find
    find_wanted =
        lookup_wanted i probes (gnu_table class order p) hash (wanted class order p asked)
        (past_fault i probes (gnu_fault class order p.table) _ (past_long i probes (any_long (all_parts p asked)) _ found))

    pub find_named : name_of class order p.symbols p.strings i ≡ some asked.name
    find_named = wanted_named class order p asked i find_wanted

    pub find_fits : matching order p.versyms p.store p.version_strings (symbol_index i) asked.need asked.need_name ≡ true
    find_fits = wanted_fits class order p asked i find_wanted

  pub find_one : OneAsked (gnu_find class order p)
  find_one asked asked' hash hash' needed needed' i probes probes' need need' found found' =
      wanted_one class order p asked asked' needed needed' i need need'
      (find_wanted asked hash i probes found) (find_wanted asked' hash' i probes' found')
