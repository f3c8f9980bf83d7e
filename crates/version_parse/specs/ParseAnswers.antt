-- Need not be believed: what inner functions answer and leave in the store, as outcomes. Their contracts cite it.
--     filled_outcome    of the second pass: the store
--     parsed_outcome    of both passes: the highest index and the store
-- Assumes nothing.
use Rattle.std.specs.Prelude.{ℕ, List, Result, Ok, Err}
use Rattle.endian.specs.declared.refusals.Refusal.{Refusal}
use Rattle.version.specs.declared.index.VersionIndex.{VersionIndex}
use Rattle.version_records.specs.Outcome.{Outcome}
use Rattle.version_parse.specs.Parse.{ParsedStore}

abbrev pub filled_outcome : Result (Unit {0}) Refusal → List ℕ → Outcome (List ℕ)
filled_outcome (Ok done) store = Ok store
filled_outcome (Err e) store = Err e

abbrev pub parsed_outcome : Result VersionIndex Refusal → List ℕ → Outcome ParsedStore
parsed_outcome (Ok high) store = Ok (record { highest = high; store = store })
parsed_outcome (Err e) store = Err e
