-- What `aligned` is: the first multiple of the alignment that is no less than a number.
--     aligned-le          it is no less
--     aligned_multiple    it is a multiple
--     aligned_least       no other is before it
--     aligned_next        it is what the library's `next_multiple_of` is
-- Assumes nothing.
use Rattle.std.proofs.Common.{ℕ, ◌%◌, ◌≤◌, ◌≡◌, arith}
use Rattle.std.specs.Int.{next_multiple_of}
use Rattle.note.specs.Notes.{align_size, aligned}
use Rattle.note.specs.declared.reader.Align.{Align}
use Rattle.note.specs.declared.reader.Align.TheVariants.{Four, Eight}

pub aligned-le : (align : Align) (n : ℕ) → n ≤ aligned align n
aligned-le Four n = omega arith
aligned-le Eight n = omega arith

pub aligned_multiple : (align : Align) (n : ℕ) → aligned align n % align_size align ≡ 0
aligned_multiple Four n = omega arith
aligned_multiple Eight n = omega arith

pub aligned_least : (align : Align) (n m : ℕ) → m % align_size align ≡ 0 → n ≤ m → aligned align n ≤ m
aligned_least Four n m multiple above = omega arith
aligned_least Eight n m multiple above = omega arith

pub aligned_next : (align : Align) (n : ℕ) → next_multiple_of n (align_size align) ≡ aligned align n
aligned_next Four n = omega arith
aligned_next Eight n = omega arith
