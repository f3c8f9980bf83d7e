-- Need not be believed: class and order of the numbers that C passes, or why there are none, as inner contracts cite them.
--     known_class, known_order, known    of a class, of an order, of both; the parts decide between 1 and 39
-- Assumes nothing.
use Rattle.std.specs.Prelude.{ℕ, cond, List, Result, Ok, Err}
use Rattle.endian.specs.declared.kinds.Class.{Class}
use Rattle.endian.specs.declared.kinds.Order.{Order}
use Rattle.endian.specs.declared.refusals.Refusal.{Refusal}
use Rattle.export.specs.Kinds.{is_kind, are_kinds, class_of, order_of, kind_refusal}

abbrev pub known_class : (class : ℕ) → (parts : List (List ℕ)) → Result Class Refusal
known_class class parts = cond (is_kind class) (Ok (class_of class)) (Err (kind_refusal parts))

abbrev pub known_order : (order : ℕ) → (parts : List (List ℕ)) → Result Order Refusal
known_order order parts = cond (is_kind order) (Ok (order_of order)) (Err (kind_refusal parts))

abbrev pub known : (class order : ℕ) → (parts : List (List ℕ)) → Result (Class × Order) Refusal
known class order parts = cond (are_kinds class order) (Ok (class_of class, order_of order)) (Err (kind_refusal parts))
