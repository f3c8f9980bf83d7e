-- The hash of a name as C gets it. Assumes nothing.
use Rattle.std.specs.Prelude.{ℕ, Result, Ok, Err}
use Rattle.endian.specs.declared.refusals.Refusal.{Refusal}
use Rattle.export.specs.declared.answers.NumberAnswer.{NumberAnswer}
use Rattle.export.specs.Answers.{number, no_number}

abbrev pub hash_answer : Result ℕ Refusal → NumberAnswer
hash_answer (Ok h) = number h
hash_answer (Err r) = no_number r
