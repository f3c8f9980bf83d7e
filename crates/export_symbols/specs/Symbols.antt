-- The answers about symbols as C gets them: the number of a refusal, or 0, and the values of each case; what a case lacks is 0.
--     count_answer           of how many symbols there are, or of a refusal
--     symbol_answer          of a symbol, or of a refusal
--     symbol_count_answer    how many symbols there are, by the class's number
--     symbol_at_answer       the symbol of a number, by the numbers of class and order
--     symbol_name_answer     its name
-- Assumes nothing.
use Rattle.std.specs.Prelude.{ℕ, List, [], ◌∷◌, Result, Ok, Err}
use Rattle.endian.specs.declared.refusals.Refusal.{Refusal}
use Rattle.symbol_entry.specs.declared.Symbol.{Symbol}
use Rattle.symbol.specs.Table.{symbol_index, symbol_count, symbol_at, symbol_name}
use Rattle.export.specs.declared.answers.NumberAnswer.{NumberAnswer}
use Rattle.export.specs.declared.answers.PlaceAnswer.{PlaceAnswer}
use Rattle.export.specs.Answers.{number, no_number, place_of}
use Rattle.export.specs.Kinds.{is_kind, are_kinds, class_of, order_of, unless_unknown}
use Rattle.export_symbols.specs.declared.symbols.SymbolAnswer.{SymbolAnswer}

abbrev pub count_answer : Result ℕ Refusal → NumberAnswer
count_answer (Ok n) = number n
count_answer (Err r) = no_number r

abbrev pub symbol_answer : Result Symbol Refusal → SymbolAnswer
symbol_answer (Ok symbol) = record {
  refusal = 0;
  name = symbol.name;
  value = symbol.value;
  size = symbol.size;
  info = symbol.info;
  other = symbol.other;
  shndx = symbol.shndx;
}
symbol_answer (Err r) = record { refusal = r.0; name = 0; value = 0; size = 0; info = 0; other = 0; shndx = 0 }

abbrev pub symbol_count_answer : (class : ℕ) → (symbols : List ℕ) → NumberAnswer
symbol_count_answer class symbols =
    unless_unknown no_number (is_kind class) (symbols ∷ []) (count_answer (symbol_count (class_of class) symbols))

abbrev pub symbol_at_answer : (class order : ℕ) → (symbols : List ℕ) → (index : ℕ) → SymbolAnswer
symbol_at_answer class order symbols index =
    symbol_answer
    (unless_unknown Err (are_kinds class order) (symbols ∷ [])
    (symbol_at (class_of class) (order_of order) symbols (symbol_index index)))

abbrev pub symbol_name_answer : (class order : ℕ) → (symbols strings : List ℕ) → (index : ℕ) → PlaceAnswer
symbol_name_answer class order symbols strings index =
    place_of
    (unless_unknown Err (are_kinds class order) (symbols ∷ strings ∷ [])
    (symbol_name (class_of class) (order_of order) symbols strings (symbol_index index)))
