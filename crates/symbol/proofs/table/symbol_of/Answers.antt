-- `symbol::table::symbol_of` meets its contract. Each field is the word of its place in the layout; a field of one byte is a word of one. Assumes nothing.
use Rattle.std.proofs.Common.{◌+◌, add-zero}
use Rattle.endian.proofs.Word.{word_byte}
use Rattle.symbol.proofs.table.symbol_of.Goals as goal

pub returns-in-Elf32 : goal.returns-in-Elf32
returns-in-Elf32 c =
    let args = c.args in
    let byte = word_byte args.order args.symbols.now in
    rw (c.in-Elf32.is, add-zero, byte (args.base + 12), byte (args.base + 13), c.u16_at.ensures, c.u8_at-in-Elf32.ensures, c.u8_at.ensures, c.u32_at-in-Elf32-2.ensures, c.u32_at-in-Elf32.ensures, c.u32_at.ensures)

pub returns-in-Elf64 : goal.returns-in-Elf64
returns-in-Elf64 c =
    let args = c.args in
    let byte = word_byte args.order args.symbols.now in
    rw (c.in-Elf64.is, add-zero, byte (args.base + 4), byte (args.base + 5), c.u16_at-in-Elf64.ensures, c.u8_at-in-Elf64-2.ensures, c.u8_at-in-Elf64.ensures, c.u64_at-in-Elf64.ensures, c.u64_at.ensures, c.u32_at-in-Elf64.ensures)
