-- The store (01, "The store"): the numbers of each version at its index.
--     entry_size         the numbers of an entry
--     store_needs        how many numbers a highest index asks for
--     no_file            the file of a definition
--     version_numbers    kind, hash, name start, name length, file start, file length
--     put_entry          the store with the numbers of a version at its index over what was there
-- Assumes nothing.
use Rattle.std.specs.Prelude.{ℕ, ◌+◌, ◌*◌, List, [], ◌∷◌}
use Rattle.std.proofs.lemmas.List.Edits.{sets}
use Rattle.version.specs.declared.index.VersionIndex.{VersionIndex}
use Rattle.version.specs.declared.store.Part.{Part}
use Rattle.version.specs.declared.store.Stored.{Stored}
use Rattle.version.specs.declared.store.Version.{Version}

abbrev pub entry_size : ℕ
entry_size = 6

abbrev pub store_needs : VersionIndex → ℕ
store_needs high = (high.0 + 1) * entry_size

abbrev pub no_file : Part
no_file = record { start = 0; len = 0 }

abbrev pub version_numbers : Version → List ℕ
version_numbers v = v.kind ∷ v.hash ∷ v.name.start ∷ v.name.len ∷ v.file.start ∷ v.file.len ∷ []

unfoldable pub put_entry : List ℕ → Stored → List ℕ
put_entry store x = sets store (x.index.0 * entry_size) (version_numbers x.version)
