-- A comparison as C gets it: refused where a part is too long. Assumes nothing.
use Rattle.std.specs.Prelude.{ℕ, cond, List, [], ◌∷◌}
use Rattle.endian.specs.Refusals.{any_long, too_long}
use Rattle.strings.specs.Strings.{string_equals}
use Rattle.export.specs.declared.answers.NumberAnswer.{NumberAnswer}
use Rattle.export.specs.Answers.{number, no_number, truth}

abbrev pub equals_answer : List ℕ → ℕ → List ℕ → NumberAnswer
equals_answer strings offset name =
    cond (any_long (strings ∷ name ∷ [])) (no_number too_long) (number (truth (string_equals strings offset name)))
