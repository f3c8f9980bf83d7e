-- The answer about a part of the file as C gets it: document 01's number of a refusal, or 0, and the values of each case; what a case lacks is 0.
--     place_part    of a part of the file, of none, or of the refusal
-- Assumes nothing.
use Rattle.std.specs.Prelude.{Result, Ok, Err, Option, Some, None}
use Rattle.endian.specs.declared.refusals.Refusal.{Refusal}
use Rattle.strings.specs.declared.Place.{Place}
use Rattle.export.specs.Parts.{no_part, part}
use Rattle.export.specs.declared.parts.PartAnswer.{PartAnswer}

abbrev pub place_part : Result (Option Place) Refusal → PartAnswer
place_part (Ok (Some place)) = part place.start place.len 0
place_part (Ok None) = no_part 0
place_part (Err r) = no_part r.0
