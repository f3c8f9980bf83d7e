-- What the numbers of class and order come to. Assumes nothing.
--     kinds, pairs          1 and 2 are kinds, and 0, 3 and 255 are none; of two numbers both must be
--     classes, orders       which class and which order 1 and 2 are
--     kind_refusal_parts    the refusal is 1 where a part is too long, and else 39
--     unknown_long          so is an answer's where a number is no kind, whatever it would be: 1 with a part that is too long
--     unknown_short         and 39 with none
--     known                 where the numbers are kinds, the answer is what it would be
use Rattle.std.proofs.Common.{ℕ, ◌≡◌, refl, ap, ◌∙◌, Bool, true, false, cond, List, [], ◌∷◌, map, ltb, length}
use Rattle.endian.specs.declared.kinds.Class.TheVariants.{Elf32, Elf64}
use Rattle.endian.specs.declared.kinds.Order.TheVariants.{Little, Big}
use Rattle.endian.specs.declared.refusals.Refusal.{Refusal}
use Rattle.endian.specs.Refusals.{limit, any_long, refusal}
use Rattle.export.specs.Kinds.{is_kind, are_kinds, class_of, order_of, kind_refusal, unless_unknown}

pub kinds : map is_kind (0 ∷ 1 ∷ 2 ∷ 3 ∷ 255 ∷ []) ≡ false ∷ true ∷ true ∷ false ∷ false ∷ []
unfolding is_kind
kinds = refl

pub pairs : (are_kinds 1 2 ≡ true) × (are_kinds 2 1 ≡ true) × (are_kinds 0 1 ≡ false) × (are_kinds 1 0 ≡ false)
unfolding is_kind
pairs = (refl, refl, refl, refl)

pub classes : map class_of (1 ∷ 2 ∷ []) ≡ Elf32 ∷ Elf64 ∷ []
classes = refl

pub orders : map order_of (1 ∷ 2 ∷ []) ≡ Little ∷ Big ∷ []
orders = refl

refused_step : (long any : Bool) (r : Refusal) → r ≡ cond any (refusal 1) (refusal 39) →
    cond long (refusal 1) r ≡ cond (cond long true any) (refusal 1) (refusal 39)
refused_step true any r rest = refl
refused_step false any r rest = rest

pub kind_refusal_parts : (parts : List (List ℕ)) → kind_refusal parts ≡ cond (any_long parts) (refusal 1) (refusal 39)
kind_refusal_parts [] = refl
kind_refusal_parts (part ∷ parts) =
    refused_step (ltb limit (length part)) (any_long parts) (kind_refusal parts) (kind_refusal_parts parts)

module _ {A : Type 0} (refused : Refusal → A) (parts : List (List ℕ)) (answer : A) where
  pub unknown_long : any_long parts ≡ true → unless_unknown refused false parts answer ≡ refused (refusal 1)
  unknown_long long = ap refused (kind_refusal_parts parts ∙ simp long)

  pub unknown_short : any_long parts ≡ false → unless_unknown refused false parts answer ≡ refused (refusal 39)
  unknown_short short = ap refused (kind_refusal_parts parts ∙ simp short)

  pub known : unless_unknown refused true parts answer ≡ answer
  known = refl
