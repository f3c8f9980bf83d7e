-- The answers of the parse as C gets them: the number of a refusal, or 0, and the values of each case; what a case lacks is 0.
--     parsed_answer    of the parse: the highest index
--     parsed_by        what parsing comes to, by the order's number; the store is all 0 after this refusal too
-- Assumes nothing.
use Rattle.std.specs.Prelude.{ℕ, List, [], ◌∷◌, Result, Ok, Err}
use Rattle.endian.specs.declared.refusals.Refusal.{Refusal}
use Rattle.version.specs.declared.index.VersionIndex.{VersionIndex}
use Rattle.version_records.specs.Outcome.{Outcome}
use Rattle.version_parse.specs.Parse.{ParsedStore, parsed}
use Rattle.export.specs.Answers.{number, no_number}
use Rattle.export.specs.Kinds.{is_kind, order_of, unless_unknown}
use Rattle.export.specs.declared.answers.NumberAnswer.{NumberAnswer}

abbrev pub parsed_answer : Result VersionIndex Refusal → NumberAnswer
parsed_answer (Ok index) = number index.0
parsed_answer (Err r) = no_number r

abbrev pub parsed_by : (order : ℕ) → (verdef verneed strings : List ℕ) → (n : ℕ) → Outcome ParsedStore
parsed_by order verdef verneed strings n =
    unless_unknown Err (is_kind order) (verdef ∷ verneed ∷ strings ∷ []) (parsed (order_of order) verdef verneed strings n)
