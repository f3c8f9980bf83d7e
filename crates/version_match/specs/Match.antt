-- The match (01, "Match").
--     version_name            the bytes of a version's name
--     is_needed, satisfied    whether a version has the hash and the name; whether what is behind an index is what is needed
--     matching                whether the version of a symbol is the one that is needed; never where versyms or strings
--                            are too long. A name is not held to the limit: one that is too long is no version's
-- Assumes nothing.
use Rattle.std.specs.Prelude.{ℕ, List, Bool, true, false, not, ◌&&◌, take, drop, eqb, Result, Ok, Err, Option, Some, None}
use Rattle.endian.specs.declared.kinds.Order.{Order}
use Rattle.endian.specs.declared.refusals.Refusal.{Refusal}
use Rattle.endian.specs.First.{same}
use Rattle.symbol.specs.declared.table.SymbolIndex.{SymbolIndex}
use Rattle.version.specs.Table.{entry_at, versym_at}
use Rattle.version.specs.declared.store.Version.{Version}
use Rattle.version.specs.declared.table.Versym.{Versym}
use Rattle.version_match.specs.declared.Need.{Need}

abbrev pub version_name : List ℕ → Version → List ℕ
version_name strings v = take v.name.len (drop v.name.start strings)

abbrev pub is_needed : (strings : List ℕ) → Version → (hash : ℕ) → (name : List ℕ) → Bool
is_needed strings v hash name = eqb v.hash hash && same (version_name strings v) name

abbrev pub satisfied : (strings : List ℕ) → (hidden : Bool) → Need → (name : List ℕ) → Result (Option Version) Refusal → Bool
satisfied strings hidden need name (Err r) = false
satisfied strings hidden Need.Any name (Ok None) = true
satisfied strings hidden (Need.Hash hash) name (Ok None) = false
satisfied strings hidden Need.Any name (Ok (Some v)) = not hidden
satisfied strings hidden (Need.Hash hash) name (Ok (Some v)) = is_needed strings v hash name

abbrev pub match_of : (store strings : List ℕ) → Need → (name : List ℕ) → Result Versym Refusal → Bool
match_of store strings need name (Err r) = false
match_of store strings need name (Ok v) =
    satisfied strings v.hidden need name (entry_at store strings v.index)

unfoldable pub matching : Order → (versyms store strings : List ℕ) → SymbolIndex → Need → (name : List ℕ) → Bool
matching order versyms store strings symbol need name = match_of store strings need name (versym_at order versyms symbol)
