-- The match of a version as C gets it.
--     need_of         the need behind the numbers that C passes: any version where needed is 0
--     match_answer    a match, by the order's number; refused where a part is too long, or the order is none
-- Assumes nothing.
use Rattle.std.specs.Prelude.{ℕ, cond, List, [], ◌∷◌, eqb}
use Rattle.endian.specs.Refusals.{any_long, too_long}
use Rattle.symbol.specs.declared.table.SymbolIndex.{SymbolIndex}
use Rattle.version_match.specs.declared.Need.{Need}
use Rattle.version_match.specs.Match.{matching}
use Rattle.export.specs.Answers.{number, no_number, truth}
use Rattle.export.specs.Kinds.{is_kind, order_of, unless_unknown}
use Rattle.export.specs.declared.answers.NumberAnswer.{NumberAnswer}

abbrev pub need_of : (needed hash : ℕ) → Need
need_of needed hash = cond (eqb needed 0) Need.Any (Need.Hash hash)

abbrev pub match_answer : (order : ℕ) → (versyms store strings : List ℕ) → SymbolIndex → Need → (name : List ℕ) → NumberAnswer
match_answer order versyms store strings symbol need name =
    unless_unknown no_number (is_kind order) (versyms ∷ strings ∷ name ∷ [])
    (cond (any_long (versyms ∷ strings ∷ name ∷ [])) (no_number too_long)
    (number (truth (matching (order_of order) versyms store strings symbol need name))))
