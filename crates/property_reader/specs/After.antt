-- The reader that stands after a step over GNU properties, by what the step found. Assumes nothing.
--     after_found, property_reader_after    behind a property, where it was at the end, at the end of the bytes where it is refused
use Rattle.std.specs.Prelude.{ℕ, ◌+◌, List, length, Result, Ok, Err, Option, Some, None}
use Rattle.endian.specs.declared.refusals.Refusal.{Refusal}
use Rattle.property_reader.specs.Reader.{property_step, property_next, property_reader_at}
use Rattle.property_reader.specs.declared.Property.{Property}
use Rattle.property_reader.specs.declared.PropertyReader.{PropertyReader}

abbrev pub after_found : PropertyReader → List ℕ → Result (Option Property) Refusal → PropertyReader
after_found reader s (Ok (Some property)) = property_reader_at reader (reader.at + property_next reader s)
after_found reader s (Ok None) = reader
after_found reader s (Err refusal) = property_reader_at reader (length s)

abbrev pub property_reader_after : PropertyReader → List ℕ → PropertyReader
property_reader_after reader s = after_found reader s (property_step reader s)
