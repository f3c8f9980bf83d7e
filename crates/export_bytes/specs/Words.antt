-- A word as C gets it: refused where the bytes are too long, or the order is none. Assumes nothing.
use Rattle.std.specs.Prelude.{ℕ, cond, List, [], ◌∷◌}
use Rattle.endian.specs.Refusals.{any_long, too_long}
use Rattle.endian.specs.Word.{word_at}
use Rattle.export.specs.declared.answers.NumberAnswer.{NumberAnswer}
use Rattle.export.specs.Answers.{number, no_number}
use Rattle.export.specs.Kinds.{is_kind, order_of, unless_unknown}

abbrev pub word_answer : (order width : ℕ) → (bytes : List ℕ) → (at : ℕ) → NumberAnswer
word_answer order width bytes at =
    unless_unknown no_number (is_kind order) (bytes ∷ [])
    (cond (any_long (bytes ∷ [])) (no_number too_long) (number (word_at (order_of order) width bytes at)))
