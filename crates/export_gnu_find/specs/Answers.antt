-- The lookup in a GNU table as C gets it: class and order are the numbers that C passes. Assumes nothing.
use Rattle.std.specs.Prelude.{ℕ, Err}
use Rattle.lookup.specs.Wanted.{Parts, Asked, all_parts}
use Rattle.gnu.specs.Find.{gnu_find}
use Rattle.export.specs.Kinds.{are_kinds, class_of, order_of, unless_unknown}
use Rattle.export.specs.Lookups.{lookup_answer}
use Rattle.export.specs.declared.lookups.LookupAnswer.{LookupAnswer}

abbrev pub gnu_answer : (class order : ℕ) → Parts → Asked → (hash : ℕ) → LookupAnswer
gnu_answer class order parts asked hash =
    lookup_answer
    (unless_unknown Err (are_kinds class order) (all_parts parts asked)
    (gnu_find (class_of class) (order_of order) parts asked hash))
