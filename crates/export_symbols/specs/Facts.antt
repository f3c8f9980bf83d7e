-- The answers about a symbol's fields as C gets them: document 01's number of a refusal, or 0, and the values of each case; what a case lacks is 0.
--     definition_answer    of whether a symbol is a definition, or of a refusal
--     entry, facts         a symbol with these fields, and what they say
-- Assumes nothing.
use Rattle.std.specs.Prelude.{ℕ, Bool, Result, Ok, Err}
use Rattle.symbol_entry.specs.declared.Symbol.{Symbol}
use Rattle.endian.specs.declared.refusals.Refusal.{Refusal}
use Rattle.symbol_entry.specs.Entry.{bind_of, type_of, visibility_of, is_undefined, is_common, is_absolute, is_local, is_weak}
use Rattle.export.specs.declared.answers.NumberAnswer.{NumberAnswer}
use Rattle.export.specs.Answers.{number, no_number, truth}
use Rattle.export_symbols.specs.declared.facts.FactsAnswer.{FactsAnswer}

abbrev pub definition_answer : Result Bool Refusal → NumberAnswer
definition_answer (Ok t) = number (truth t)
definition_answer (Err r) = no_number r

abbrev pub entry : (name info other shndx : ℕ) → Symbol
entry name info other shndx = record { name = name; value = 0; size = 0; info = info; other = other; shndx = shndx }

abbrev pub facts : Symbol → FactsAnswer
facts symbol = record {
  bind = bind_of symbol;
  kind = type_of symbol;
  visibility = visibility_of symbol;
  undefined = truth (is_undefined symbol);
  common = truth (is_common symbol);
  absolute = truth (is_absolute symbol);
  local = truth (is_local symbol);
  weak = truth (is_weak symbol);
}
