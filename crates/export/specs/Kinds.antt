-- Class and order as C passes them: ELF's own numbers, as e_ident[4] and e_ident[5] hold them (gABI, "ELF Identification").
--     is_kind, are_kinds    whether a number is that of a class or an order; whether two are, of a class and of an order
--     class_of, order_of    the class and the order of such a number; what any other number stands for is never asked
--     unless_long           the refusal of a part that is too long, or else the one that is given
--     kind_refusal          the refusal of a number that is no kind
--     unless_unknown        the answer, or that refusal where the numbers are no kinds
-- Assumes nothing.
use Rattle.std.specs.Prelude.{ℕ, Bool, cond, ◌&&◌, ◌||◌, eqb, ltb, length}
use mathlib.Core.List.{List, foldr}
use Rattle.endian.specs.declared.kinds.Class.{Class}
use Rattle.endian.specs.declared.kinds.Class.TheVariants.{Elf32, Elf64}
use Rattle.endian.specs.declared.kinds.Order.{Order}
use Rattle.endian.specs.declared.kinds.Order.TheVariants.{Little, Big}
use Rattle.endian.specs.declared.refusals.Refusal.{Refusal}
use Rattle.endian.specs.Refusals.{limit, too_long, unknown_kind}

unfoldable pub is_kind : ℕ → Bool
is_kind n = eqb n 1 || eqb n 2

abbrev pub are_kinds : (class order : ℕ) → Bool
are_kinds class order = is_kind class && is_kind order

abbrev pub class_of : ℕ → Class
class_of n = cond (eqb n 1) Elf32 Elf64

abbrev pub order_of : ℕ → Order
order_of n = cond (eqb n 1) Little Big

abbrev pub unless_long : (part : List ℕ) → Refusal → Refusal
unless_long part refusal = cond (ltb limit (length part)) too_long refusal

-- 1 comes before 39
abbrev pub kind_refusal : (parts : List (List ℕ)) → Refusal
kind_refusal parts = foldr unless_long unknown_kind parts

-- 39 comes before everything else: an answer is not looked at before its kinds, and tests 1 first itself
abbrev pub unless_unknown : {A : Type 0} → (Refusal → A) → (known : Bool) → (parts : List (List ℕ)) → A → A
unless_unknown refused known parts answer = cond known answer (refused (kind_refusal parts))
