-- What the statements about both hash tables say of a symbol and of a lookup, in demand 3's words.
--     Matches     a symbol is what is asked for: its name is equal, and its version matches
--     OneAsked    of a lookup by a hash: two that each state a version and get the same symbol asked for one name and one version
-- Assumes nothing.
use Rattle.std.specs.Prelude.{ℕ, ◌≡◌, true, Result, Ok}
use Rattle.std.proofs.Math.Option.{some}
use Rattle.endian.specs.declared.kinds.Class.{Class}
use Rattle.endian.specs.declared.kinds.Order.{Order}
use Rattle.endian.specs.declared.refusals.Refusal.{Refusal}
use Rattle.symbol.specs.Table.{symbol_index}
use Rattle.version_match.specs.declared.Need.{Need}
use Rattle.version_match.specs.Match.{matching}
use Rattle.lookup.specs.declared.Lookup.{Lookup}
use Rattle.lookup.specs.Wanted.{Parts, Asked, name_of, found}

pub record Matches (class : Class) (order : Order) (p : Parts) (asked : Asked) (i : ℕ) : Type 0 where
  pub name : name_of class order p.symbols p.strings i ≡ some asked.name
  pub version : matching order p.versyms p.store p.version_strings (symbol_index i) asked.need
      asked.need_name ≡ true

abbrev pub OneAsked : (find : Asked → (hash : ℕ) → Result Lookup Refusal) → Type 0
OneAsked find = (asked asked' : Asked) (hash hash' needed needed' i probes probes' : ℕ)
    → asked.need ≡ Need.Hash needed → asked'.need ≡ Need.Hash needed'
    → find asked hash ≡ Ok (found (symbol_index i) probes) → find asked' hash' ≡ Ok (found (symbol_index i) probes')
    → (asked.name ≡ asked'.name) × (asked.need_name ≡ asked'.need_name) × (needed ≡ needed')
