-- The answers about versions as C gets them: the number of a refusal, or 0, and the values of each case; what a case lacks is 0.
--     version_index                 the value behind a number that C passes
--     no_version, version_answer    of what stands behind an index
--     versym_answer                 of the version of a symbol
--     version_of_answer             the version of a symbol, by the order's number
-- Assumes nothing.
use Rattle.std.specs.Prelude.{ℕ, List, [], ◌∷◌, Result, Ok, Err, Option, Some, None}
use Rattle.endian.specs.declared.refusals.Refusal.{Refusal}
use Rattle.symbol.specs.Table.{symbol_index}
use Rattle.version.specs.Table.{versym_at}
use Rattle.version.specs.declared.index.VersionIndex.{VersionIndex}
use Rattle.version.specs.declared.store.Version.{Version}
use Rattle.version.specs.declared.table.Versym.{Versym}
use Rattle.export.specs.Answers.{truth}
use Rattle.export.specs.Kinds.{is_kind, order_of, unless_unknown}
use Rattle.export_versions.specs.declared.VersionAnswer.{VersionAnswer}
use Rattle.export_versions.specs.declared.VersymAnswer.{VersymAnswer}

abbrev pub version_index : ℕ → VersionIndex
version_index n = record { 0 = n }

abbrev pub no_version : (refusal special : ℕ) → VersionAnswer
no_version refusal special = record {
  refusal = refusal;
  special = special;
  kind = 0;
  hash = 0;
  name = 0;
  name_length = 0;
  file = 0;
  file_length = 0;
}

abbrev pub version_answer : Result (Option Version) Refusal → VersionAnswer
version_answer (Ok None) = no_version 0 1
version_answer (Ok (Some v)) = record {
  refusal = 0;
  special = 0;
  kind = v.kind;
  hash = v.hash;
  name = v.name.start;
  name_length = v.name.len;
  file = v.file.start;
  file_length = v.file.len;
}
version_answer (Err r) = no_version r.0 0

abbrev pub versym_answer : Result Versym Refusal → VersymAnswer
versym_answer (Ok v) = record { refusal = 0; index = v.index.0; hidden = truth v.hidden }
versym_answer (Err r) = record { refusal = r.0; index = 0; hidden = 0 }

abbrev pub version_of_answer : (order : ℕ) → (versyms : List ℕ) → (symbol : ℕ) → VersymAnswer
version_of_answer order versyms symbol =
    versym_answer
    (unless_unknown Err (is_kind order) (versyms ∷ [])
    (versym_at (order_of order) versyms (symbol_index symbol)))
