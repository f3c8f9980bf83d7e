-- The answers about the symbol table, from a hash table, as C gets them: the number of a refusal, or 0, and the values of each case; what a case lacks is 0.
--     base_answer           of a header: the number of the first hashed symbol
--     gnu_base_answer       that of a GNU table, by the numbers of class and order
--     length_answer         of a length: known is 0 where the table says nothing of it
--     gnu_length_answer     the length from a GNU table, by the numbers of class and order
--     chains_answer         of a number of chains
--     sysv_length_answer    the length from a SysV table, by the order's number
-- Assumes nothing.
use Rattle.std.specs.Prelude.{ℕ, List, [], ◌∷◌, Result, Ok, Err, Option, Some, None}
use Rattle.gnu_table.specs.Header.{gnu_header}
use Rattle.gnu_length.specs.Length.{gnu_length}
use Rattle.sysv_header.specs.Header.{sysv_length}
use Rattle.endian.specs.declared.refusals.Refusal.{Refusal}
use Rattle.gnu_table.specs.declared.header.Layout.{Layout}
use Rattle.export.specs.Answers.{number, no_number}
use Rattle.export.specs.Kinds.{is_kind, are_kinds, class_of, order_of, unless_unknown}
use Rattle.export.specs.declared.answers.NumberAnswer.{NumberAnswer}
use Rattle.export_tables.specs.declared.lengths.LengthAnswer.{LengthAnswer}

abbrev pub base_answer : Result Layout Refusal → NumberAnswer
base_answer (Ok layout) = number layout.symbol_base
base_answer (Err r) = no_number r

abbrev pub gnu_base_answer : (class order : ℕ) → (table : List ℕ) → NumberAnswer
gnu_base_answer class order table =
    unless_unknown no_number (are_kinds class order) (table ∷ [])
    (base_answer (gnu_header (class_of class) (order_of order) table))

abbrev pub length_answer : Result (Option ℕ) Refusal → LengthAnswer
length_answer (Ok (Some n)) = record { refusal = 0; known = 1; symbols = n }
length_answer (Ok None) = record { refusal = 0; known = 0; symbols = 0 }
length_answer (Err r) = record { refusal = r.0; known = 0; symbols = 0 }

abbrev pub gnu_length_answer : (class order : ℕ) → (table : List ℕ) → LengthAnswer
gnu_length_answer class order table =
    length_answer
    (unless_unknown Err (are_kinds class order) (table ∷ [])
    (gnu_length (class_of class) (order_of order) table))

abbrev pub chains_answer : Result ℕ Refusal → NumberAnswer
chains_answer (Ok n) = number n
chains_answer (Err r) = no_number r

abbrev pub sysv_length_answer : (order : ℕ) → (table : List ℕ) → NumberAnswer
sysv_length_answer order table =
    unless_unknown no_number (is_kind order) (table ∷ []) (chains_answer (sysv_length (order_of order) table))
