-- A version table (01, "The store"): versyms, the store, and the versions' strings.
--     number_at, stored_at    a number of the entry at an index, and the version in it
--     inside, valid           whether a part lies in the strings, and whether a stored version is one (21)
--     entry_at                the version behind an index
--     versym_of, versym_at    the versym of a symbol, or 1 where there is none, and what it says
-- Assumes nothing.
use Rattle.std.specs.Prelude.{ℕ, ◌+◌, ◌*◌, ◌%◌, List, Bool, false, cond, ◌&&◌, length, get_or, ltb, leb, eqb, Result, Ok, Err, Option, Some, None}
use Rattle.endian.specs.declared.kinds.Order.{Order}
use Rattle.endian.specs.declared.refusals.Refusal.{Refusal}
use Rattle.endian.specs.Refusals.{limit, too_long, bad_version_index}
use Rattle.endian.specs.Word.{word_at}
use Rattle.symbol.specs.declared.table.SymbolIndex.{SymbolIndex}
use Rattle.version.specs.Index.{is_special}
use Rattle.version.specs.Store.{entry_size, store_needs, no_file}
use Rattle.version.specs.declared.index.VersionIndex.{VersionIndex}
use Rattle.version.specs.declared.store.Part.{Part}
use Rattle.version.specs.declared.store.Version.{Version}
use Rattle.version.specs.declared.table.Versym.{Versym}

abbrev pub number_at : List ℕ → VersionIndex → ℕ → ℕ
number_at store index k = get_or store (index.0 * entry_size + k) 0

-- file fields are 0 unless the kind is 2
abbrev pub file_of : (kind start len : ℕ) → Part
file_of kind start len = cond (eqb kind 2) (record { start = start; len = len }) no_file

unfoldable pub stored_at : List ℕ → VersionIndex → Version
stored_at store index =
    let n = number_at store index in
    record { kind = n 0; hash = n 1; name = record { start = n 2; len = n 3 }; file = file_of (n 0) (n 4) (n 5) }

abbrev pub inside : List ℕ → Part → Bool
inside strings part = leb (part.start + part.len) (length strings)

-- a definition or a need, whose name and file lie in the strings
unfoldable pub valid : List ℕ → Version → Bool
valid strings v =
    cond (eqb v.kind 1) (inside strings v.name)
    (cond (eqb v.kind 2) (inside strings v.name && inside strings v.file)
    false)

unfoldable pub entry_at : (store strings : List ℕ) → VersionIndex → Result (Option Version) Refusal
entry_at store strings index =
    cond (ltb limit (length strings)) (Err too_long)
    (cond (is_special index) (Ok None)
    (cond (ltb (length store) (store_needs index)) (Err bad_version_index)
    (cond (valid strings (stored_at store index)) (Ok (Some (stored_at store index)))
    (Err bad_version_index))))

-- whole records of 2 bytes
abbrev pub versym_of : Order → List ℕ → SymbolIndex → ℕ
versym_of order versyms symbol =
    cond (ltb (length versyms) ((symbol.0 + 1) * 2)) 1 (word_at order 2 versyms (symbol.0 * 2))

unfoldable pub versym_at : Order → List ℕ → SymbolIndex → Result Versym Refusal
versym_at order versyms symbol =
    let versym = versym_of order versyms symbol in
    cond (ltb limit (length versyms)) (Err too_long)
    (Ok (record { index = record { 0 = versym % 0x8000 }; hidden = leb 0x8000 versym }))
