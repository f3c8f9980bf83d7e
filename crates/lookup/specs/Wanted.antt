-- A lookup over a list of symbol numbers: what is lent, what is asked for, and the first that is wanted (01, "Lookups").
--     Parts        the lent parts
--     Asked        the name, and the version that is needed
--     all_parts    every part and every name that a lookup is lent
--     name_of      the bytes of a symbol's name, or none where there is no such symbol or its name cannot be read
--     is_named     whether that is a name; one that cannot be read never is
--     wanted       whether a symbol has the name and the version that are asked for; `wanted_in` of the parts that this looks at
--     found, missing    what a lookup gives: a symbol, or none, after so many probes
--     walk         the first match on a list of numbers, and how many of them were tested
-- Assumes nothing.
use Rattle.std.specs.Prelude.{ℕ, Bool, false, ◌&&◌, List, [], ◌∷◌, length, take, drop, Result, Ok, Err, Some, None}
use Rattle.std.proofs.Math.Option.{Option, some, none}
use Rattle.endian.specs.declared.kinds.Class.{Class}
use Rattle.endian.specs.declared.kinds.Order.{Order}
use Rattle.endian.specs.declared.refusals.Refusal.{Refusal}
use Rattle.strings.specs.declared.Place.{Place}
use Rattle.endian.specs.First.{same}
use Rattle.symbol.specs.declared.table.SymbolIndex.{SymbolIndex}
use Rattle.symbol.specs.Table.{symbol_name, symbol_index}
use Rattle.version_match.specs.declared.Need.{Need}
use Rattle.version_match.specs.Match.{matching}
use Rattle.lookup.specs.declared.Lookup.{Lookup}
use Rattle.lookup.specs.Pick.{first_of, up_to}

pub record Parts : Type 0 where
  pub table : List ℕ
  pub symbols : List ℕ
  pub strings : List ℕ
  -- a version table: the versyms, the store, and the versions' strings
  pub versyms : List ℕ
  pub store : List ℕ
  pub version_strings : List ℕ

pub record Asked : Type 0 where
  pub name : List ℕ
  pub need : Need
  -- the version's name, where one is needed
  pub need_name : List ℕ

-- the store is no part (01: "the store does not")
abbrev pub all_parts : Parts → Asked → List (List ℕ)
all_parts p asked =
    p.table ∷ p.symbols ∷ p.strings ∷ p.versyms ∷ p.version_strings ∷ asked.name ∷ asked.need_name ∷ []

-- the bytes of a string that was looked for
abbrev pub bytes_of : List ℕ → Result Place Refusal → Option (List ℕ)
bytes_of strings (Ok place) = some (take place.len (drop place.start strings))
bytes_of strings (Err r) = none

unfoldable pub name_of : Class → Order → (symbols strings : List ℕ) → ℕ → Option (List ℕ)
name_of class order symbols strings i = bytes_of strings (symbol_name class order symbols strings (symbol_index i))

abbrev pub is_named : List ℕ → Option (List ℕ) → Bool
is_named name none = false
is_named name (some n) = same n name

unfoldable pub wanted_in : Class → Order → (symbols strings versyms store version_strings : List ℕ) → Asked → ℕ → Bool
wanted_in class order symbols strings versyms store version_strings asked i =
    is_named asked.name (name_of class order symbols strings i)
    && matching order versyms store version_strings (symbol_index i) asked.need asked.need_name

abbrev pub wanted : Class → Order → Parts → Asked → ℕ → Bool
wanted class order p asked =
    wanted_in class order p.symbols p.strings p.versyms p.store p.version_strings asked

-- a symbol, or none, after so many probes
abbrev pub found : SymbolIndex → ℕ → Lookup
found symbol probes = record { symbol = Some symbol; probes = probes }

abbrev pub missing : ℕ → Lookup
missing probes = record { symbol = None; probes = probes }

abbrev pub answer_after : Option ℕ → ℕ → Lookup
answer_after (some i) probes = found (symbol_index i) probes
answer_after none probes = missing probes

abbrev pub walk : (ℕ → Bool) → List ℕ → Lookup
walk match xs = answer_after (first_of match xs) (length (up_to match xs))
