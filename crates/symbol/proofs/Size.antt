-- The records of either class. Assumes nothing.
--     end_fits                    the end of a record of a 32-bit number fits 64 bits
--     whole_count, count_whole    a whole record stands at a number exactly if it is below the count
use Rattle.std.proofs.Common.{ℕ, ◌+◌, ◌*◌, ◌/◌, ◌^◌, ◌<◌, ◌≤◌, arith}
use Rattle.endian.specs.declared.kinds.Class.{Class}
use Rattle.endian.specs.declared.kinds.Class.TheVariants.{Elf32, Elf64}
use Rattle.symbol.specs.Table.{symbol_size}

pub end_fits : (class : Class) (n : ℕ) → n < 2 ^ 32 → (n + 1) * symbol_size class < 2 ^ 64
end_fits Elf32 n h = omega arith
end_fits Elf64 n h = omega arith

pub whole_count : (class : Class) (n len : ℕ) → (n + 1) * symbol_size class ≤ len → n < len / symbol_size class
whole_count Elf32 n len h = omega arith
whole_count Elf64 n len h = omega arith

pub count_whole : (class : Class) (n len : ℕ) → n < len / symbol_size class → (n + 1) * symbol_size class ≤ len
count_whole Elf32 n len h = omega arith
count_whole Elf64 n len h = omega arith
