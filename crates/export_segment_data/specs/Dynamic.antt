-- The answers about a segment's dynamic entries as C gets them: the number of a refusal, or 0, and the values of each case; what a case lacks is 0.
--     dynamic_answer            of the part that holds the entries: number is how many there are
--     segment_dynamic_answer    where a segment's entries stand, by the class's number
--     entry_answer              of an entry, of none, or of the refusal
--     dynamic_entry_answer      the entry of a number, by the numbers of class and order
-- Assumes nothing.
use Rattle.std.specs.Prelude.{ℕ, List, [], ◌∷◌, Result, Ok, Err, Option, Some, None}
use Rattle.endian.specs.declared.refusals.Refusal.{Refusal}
use Rattle.segment_entry.specs.declared.Segment.{Segment}
use Rattle.segment_dynamic.specs.Dynamic.{segment_dynamic, dynamic_entry}
use Rattle.segment_dynamic.specs.declared.dynamic.DynamicPart.{DynamicPart}
use Rattle.segment_dynamic.specs.declared.dynamic.DynamicEntry.{DynamicEntry}
use Rattle.export.specs.Kinds.{is_kind, are_kinds, class_of, order_of, unless_unknown}
use Rattle.export.specs.Parts.{no_part, part}
use Rattle.export.specs.declared.parts.PartAnswer.{PartAnswer}
use Rattle.export_segment_data.specs.declared.dynamic.DynamicAnswer.{DynamicAnswer}

abbrev pub dynamic_answer : Result (Option DynamicPart) Refusal → PartAnswer
dynamic_answer (Ok (Some found)) = part found.place.start found.place.len found.count
dynamic_answer (Ok None) = no_part 0
dynamic_answer (Err r) = no_part r.0

abbrev pub segment_dynamic_answer : (class : ℕ) → (file : List ℕ) → Segment → PartAnswer
segment_dynamic_answer class file segment =
    dynamic_answer
    (unless_unknown Err (is_kind class) (file ∷ []) (segment_dynamic (class_of class) file segment))

abbrev pub entry_answer : Result (Option DynamicEntry) Refusal → DynamicAnswer
entry_answer (Ok (Some dynamic)) = record { refusal = 0; found = 1; tag = dynamic.tag; value = dynamic.value }
entry_answer (Ok None) = record { refusal = 0; found = 0; tag = 0; value = 0 }
entry_answer (Err r) = record { refusal = r.0; found = 0; tag = 0; value = 0 }

abbrev pub dynamic_entry_answer : (class order : ℕ) → (bytes : List ℕ) → (number : ℕ) → DynamicAnswer
dynamic_entry_answer class order bytes number =
    entry_answer
    (unless_unknown Err (are_kinds class order) (bytes ∷ [])
    (dynamic_entry (class_of class) (order_of order) bytes number))
