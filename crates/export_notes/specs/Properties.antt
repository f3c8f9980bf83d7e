-- The answers about GNU properties as C gets them: the number of a refusal, or 0, and the values of each case; what a case lacks is 0.
--     kind_answer                     of the reader before the first property: 1 if the note is of this kind
--     gnu_properties_answer           whether a note is, by the numbers of class and order
--     property_reader                 a property reader at a place
--     no_property, property_answer    of what a step found; next is the place of the reader after it
--     no_reader                       a refusal for which there is no reader: next is the end
--     property_step_answer            a step at a place, by the numbers of class and order
--     number_answer                   of a property's number, or the refusal
--     property_number_answer          a property's number, by the order's number
-- Assumes nothing.
use Rattle.std.specs.Prelude.{ℕ, List, [], ◌∷◌, length, Result, Ok, Err, Option, Some, None}
use Rattle.endian.specs.declared.kinds.Class.{Class}
use Rattle.endian.specs.declared.kinds.Order.{Order}
use Rattle.endian.specs.declared.refusals.Refusal.{Refusal}
use Rattle.note_properties.specs.Properties.{gnu_properties}
use Rattle.property_reader.specs.Reader.{property_step, property_number}
use Rattle.property_reader.specs.declared.PropertyReader.{PropertyReader}
use Rattle.property_reader.specs.declared.Property.{Property}
use Rattle.property_reader.specs.After.{property_reader_after}
use Rattle.export.specs.Answers.{number, no_number}
use Rattle.export.specs.Kinds.{is_kind, are_kinds, class_of, order_of, unless_unknown}
use Rattle.export.specs.declared.answers.NumberAnswer.{NumberAnswer}
use Rattle.export_notes.specs.declared.properties.PropertyAnswer.{PropertyAnswer}

abbrev pub kind_answer : Result (Option PropertyReader) Refusal → NumberAnswer
kind_answer (Ok (Some reader)) = number 1
kind_answer (Ok None) = number 0
kind_answer (Err r) = no_number r

abbrev pub gnu_properties_answer : (class order kind : ℕ) → (name descriptor : List ℕ) → NumberAnswer
gnu_properties_answer class order kind name descriptor =
    unless_unknown no_number (are_kinds class order) (name ∷ descriptor ∷ [])
    (kind_answer (gnu_properties (class_of class) (order_of order) kind name descriptor))

abbrev pub property_reader : Class → Order → ℕ → PropertyReader
property_reader class order at = record { class = class; order = order; at = at }

abbrev pub no_property : (refusal next : ℕ) → PropertyAnswer
no_property refusal next = record { refusal = refusal; found = 0; kind = 0; start = 0; length = 0; next = next }

abbrev pub property_answer : Result (Option Property) Refusal → (next : ℕ) → PropertyAnswer
property_answer (Ok (Some property)) next = record {
  refusal = 0;
  found = 1;
  kind = property.kind;
  start = property.start;
  length = property.size;
  next = next;
}
property_answer (Ok None) next = no_property 0 next
property_answer (Err r) next = no_property r.0 next

abbrev pub no_reader : List ℕ → Refusal → PropertyAnswer
no_reader s r = no_property r.0 (length s)

abbrev pub property_step_answer : (class order : ℕ) → (descriptor : List ℕ) → (at : ℕ) → PropertyAnswer
property_step_answer class order descriptor at =
    unless_unknown (no_reader descriptor) (are_kinds class order) (descriptor ∷ [])
    (property_answer (property_step (property_reader (class_of class) (order_of order) at) descriptor)
    (property_reader_after (property_reader (class_of class) (order_of order) at) descriptor).at)

abbrev pub number_answer : Result ℕ Refusal → NumberAnswer
number_answer (Ok n) = number n
number_answer (Err r) = no_number r

abbrev pub property_number_answer : (order : ℕ) → (part : List ℕ) → NumberAnswer
property_number_answer order part =
    unless_unknown no_number (is_kind order) (part ∷ []) (number_answer (property_number (order_of order) part))
