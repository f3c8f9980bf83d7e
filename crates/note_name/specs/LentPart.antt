-- Need not be believed: a lent part, where it starts in memory and its bytes. The contract of `trimmed` cites it: what it
-- answers is a part of the lent name, and no copy.
--     Part, part_of    where a lent part starts, and its bytes
--     trimmed_part     the trimmed front part of a lent name: it starts where the name does
-- Assumes nothing.
use Rattle.std.specs.Prelude.{ℕ, List}
use Rattle.std.specs.Borrow.{Bor}
use Rattle.note_name.specs.Trim.{trimmed_of}

pub record Part : Type 0 where
  pub from : ℕ × ℕ
  pub bytes : List ℕ

abbrev pub part_of : Bor (List ℕ) → Part
part_of part = record { from = part.ref_ptr; bytes = part.now }

abbrev pub trimmed_part : Bor (List ℕ) → Part
trimmed_part name = record { from = name.ref_ptr; bytes = trimmed_of name.now }
