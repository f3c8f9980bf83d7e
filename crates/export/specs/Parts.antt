-- A segment of the numbers that C passes, and a part of the file as C gets it.
--     entry            a segment of these numbers; the others are 0
--     no_part, part    no part of the file, and one
-- Assumes nothing.
use Rattle.std.specs.Prelude.{ℕ}
use Rattle.segment_entry.specs.declared.Segment.{Segment}
use Rattle.export.specs.declared.parts.PartAnswer.{PartAnswer}

abbrev pub entry : (kind offset vaddr filesz align : ℕ) → Segment
entry kind offset vaddr filesz align = record {
  kind = kind;
  flags = 0;
  offset = offset;
  vaddr = vaddr;
  paddr = 0;
  filesz = filesz;
  memsz = 0;
  align = align;
}

abbrev pub no_part : (refusal : ℕ) → PartAnswer
no_part refusal = record { refusal = refusal; found = 0; start = 0; length = 0; number = 0 }

abbrev pub part : (start len number : ℕ) → PartAnswer
part start len number = record { refusal = 0; found = 1; start = start; length = len; number = number }
