-- The records of either class. Assumes nothing.
--     whole_count, count_whole    a whole record stands at a number exactly if it is below the count
use Rattle.std.proofs.Common.{ℕ, ◌+◌, ◌*◌, ◌/◌, ◌<◌, ◌≤◌, arith}
use Rattle.endian.specs.declared.kinds.Class.{Class}
use Rattle.endian.specs.declared.kinds.Class.TheVariants.{Elf32, Elf64}
use Rattle.segment.specs.Table.{segment_size}

pub whole_count : (class : Class) (n len : ℕ) → (n + 1) * segment_size class ≤ len → n < len / segment_size class
whole_count Elf32 n len h = omega arith
whole_count Elf64 n len h = omega arith

pub count_whole : (class : Class) (n len : ℕ) → n < len / segment_size class → (n + 1) * segment_size class ≤ len
count_whole Elf32 n len h = omega arith
count_whole Elf64 n len h = omega arith
