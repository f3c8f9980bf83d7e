-- The answers of lookups as C gets them: document 01's number of a refusal, or 0, and the values of each case; what a case lacks is 0.
--     answer_of        of a symbol, or of none, after so many probes
--     lookup_answer    of a lookup, or of a refusal in its stead
-- Assumes nothing.
use Rattle.std.specs.Prelude.{ℕ, Result, Ok, Err, Option, Some, None}
use Rattle.endian.specs.declared.refusals.Refusal.{Refusal}
use Rattle.symbol.specs.declared.table.SymbolIndex.{SymbolIndex}
use Rattle.lookup.specs.declared.Lookup.{Lookup}
use Rattle.export.specs.declared.lookups.LookupAnswer.{LookupAnswer}

abbrev pub answer_of : Option SymbolIndex → ℕ → LookupAnswer
answer_of (Some symbol) probes = record { refusal = 0; found = 1; symbol = symbol.0; probes = probes }
answer_of None probes = record { refusal = 0; found = 0; symbol = 0; probes = probes }

abbrev pub lookup_answer : Result Lookup Refusal → LookupAnswer
lookup_answer (Ok lookup) = answer_of lookup.symbol lookup.probes
lookup_answer (Err r) = record { refusal = r.0; found = 0; symbol = 0; probes = 0 }
