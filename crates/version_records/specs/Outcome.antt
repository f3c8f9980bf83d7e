-- What a step that can be refused comes to.
--     Outcome    a value, or a refusal
--     bind       goes on with the value; a refusal leaves at once
--     both       the elements of one list and then those of another
--     folded     what a list comes to from the front, from a first value
-- Assumes nothing.
use Rattle.std.specs.Prelude.{List, ◌++◌, Result, Ok, Err}
use mathlib.Core.List.{foldl}
use Rattle.endian.specs.declared.refusals.Refusal.{Refusal}

abbrev pub Outcome : Type 0 → Type 0
Outcome A = Result A Refusal

abbrev pub bind : {A B : Type 0} → Outcome A → (A → Outcome B) → Outcome B
bind (Ok a) k = k a
bind (Err e) k = Err e

abbrev pub both : {A : Type 0} → Outcome (List A) → Outcome (List A) → Outcome (List A)
both p q = bind p (λ xs. bind q (λ ys. Ok (xs ++ ys)))

abbrev pub folded : {A B : Type 0} → (B → A → B) → B → Outcome (List A) → Outcome B
folded f b outcome = bind outcome (λ xs. Ok (foldl f b xs))
