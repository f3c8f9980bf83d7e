-- Need not be believed: class and byte order of ELF's own numbers, as e_ident[4] and e_ident[5] hold them (gABI, "ELF Identification").
--     Classes, Orders    the answer is the class, or the order, of a number; any but 1 and 2 is refused
-- Inner contracts cite them. Assumes nothing.
use Rattle.std.specs.Prelude.{ℕ, ◌≡◌, cond, eqb, Result, Ok, Err}
use Rattle.endian.specs.declared.kinds.Class.{Class}
use Rattle.endian.specs.declared.kinds.Class.TheVariants.{Elf32, Elf64}
use Rattle.endian.specs.declared.kinds.Order.{Order}
use Rattle.endian.specs.declared.kinds.Order.TheVariants.{Little, Big}
use Rattle.endian.specs.declared.refusals.Refusal.{Refusal}
use Rattle.endian.specs.Refusals.{unknown_kind}

-- 1 and 2 are the first and the second of two
abbrev pub of_two : {A : Type 0} → (first second : A) → ℕ → Result A Refusal
of_two first second n = cond (eqb n 1) (Ok first) (cond (eqb n 2) (Ok second) (Err unknown_kind))

abbrev pub Classes : ℕ → Result Class Refusal → Type 0
Classes n r = r ≡ of_two Elf32 Elf64 n

abbrev pub Orders : ℕ → Result Order Refusal → Type 0
Orders n r = r ≡ of_two Little Big n
