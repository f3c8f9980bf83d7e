-- The answers of the checkers as C gets them: the number of a refusal, or 0, and the values of each case; what a case lacks is 0.
--     gnu_checked          of what the GNU checker answers
--     gnu_check_answer     what it says of a table, by the numbers of class and order
--     sysv_checked         of the SysV checker's
--     sysv_check_answer    what it says, likewise
-- Assumes nothing.
use Rattle.std.specs.Prelude.{ℕ, List, [], ◌∷◌, Result, Ok, Err}
use Rattle.gnu_rules.specs.Rules.{gnu_check}
use Rattle.gnu_rules.specs.declared.Fault.{Fault as GnuFault}
use Rattle.sysv_check.specs.Check.{sysv_check}
use Rattle.sysv_check.specs.declared.table.Fault.{Fault as SysvFault}
use Rattle.export.specs.Kinds.{are_kinds, class_of, order_of, unless_unknown}
use Rattle.export_tables.specs.declared.checks.CheckAnswer.{CheckAnswer}

abbrev pub gnu_checked : Result ℕ GnuFault → CheckAnswer
gnu_checked (Ok longest) = record { refusal = 0; accepted = 1; rule = 0; place = 0; longest = longest }
gnu_checked (Err (GnuFault.Broken rule place)) = record { refusal = 0; accepted = 0; rule = rule; place = place; longest = 0 }
gnu_checked (Err (GnuFault.Refused r)) = record { refusal = r.0; accepted = 0; rule = 0; place = 0; longest = 0 }

abbrev pub gnu_check_answer : (class order : ℕ) → (table symbols strings : List ℕ) → CheckAnswer
gnu_check_answer class order table symbols strings =
    gnu_checked
    (unless_unknown (λ r. Err (GnuFault.Refused r)) (are_kinds class order) (table ∷ symbols ∷ strings ∷ [])
    (gnu_check (class_of class) (order_of order) table symbols strings))

abbrev pub sysv_checked : Result (Unit {0}) SysvFault → CheckAnswer
sysv_checked (Ok tt) = record { refusal = 0; accepted = 1; rule = 0; place = 0; longest = 0 }
sysv_checked (Err (SysvFault.Broken rule)) = record { refusal = 0; accepted = 0; rule = rule; place = 0; longest = 0 }
sysv_checked (Err (SysvFault.Refused r)) = record { refusal = r.0; accepted = 0; rule = 0; place = 0; longest = 0 }

abbrev pub sysv_check_answer : (class order : ℕ) → (table symbols strings : List ℕ) → CheckAnswer
sysv_check_answer class order table symbols strings =
    sysv_checked
    (unless_unknown (λ r. Err (SysvFault.Refused r)) (are_kinds class order) (table ∷ symbols ∷ strings ∷ [])
    (sysv_check (class_of class) (order_of order) table symbols strings))
