-- Need not be believed: what a record stores, as a list and as an answer. Inner contracts cite it.
--     entry_step       the answer of an outcome
--     entry_outcome    the outcome of an answer
-- Assumes nothing.
use Rattle.std.specs.Prelude.{List, [], ◌∷◌, Result, Ok, Err, Option, Some, None}
use Rattle.endian.specs.declared.refusals.Refusal.{Refusal}
use Rattle.version.specs.declared.store.Stored.{Stored}
use Rattle.version_records.specs.Outcome.{Outcome}

abbrev pub entry_step : Outcome (List Stored) → Result (Option Stored) Refusal
entry_step (Ok []) = Ok None
entry_step (Ok (x ∷ xs)) = Ok (Some x)
entry_step (Err e) = Err e

abbrev pub entry_outcome : Result (Option Stored) Refusal → Outcome (List Stored)
entry_outcome (Ok None) = Ok []
entry_outcome (Ok (Some x)) = Ok (x ∷ [])
entry_outcome (Err e) = Err e
