-- The answers about segments as C gets them: the number of a refusal, or 0, and the values of each case; what a case lacks is 0.
--     count_answer            of how many segments there are, or the refusal
--     segment_count_answer    how many segments there are, by the class's number
--     segment_answer          of a segment, or the refusal
--     segment_at_answer       the segment of a number, by the numbers of class and order
--     entry                   a segment of this type and these flags
--     kind_number, facts      of `SegmentKind`, by the gABI's number of the type; and with the permissions
-- Assumes nothing.
use Rattle.std.specs.Prelude.{ℕ, List, [], ◌∷◌, Result, Ok, Err}
use Rattle.endian.specs.declared.refusals.Refusal.{Refusal}
use Rattle.segment_entry.specs.Entry.{kind_of, permissions_of}
use Rattle.segment_entry.specs.declared.Segment.{Segment}
use Rattle.segment_entry.specs.declared.SegmentKind.{SegmentKind}
use Rattle.segment_entry.specs.declared.SegmentKind.TheVariants.{Load, Dynamic, Interpreter, Note, Other}
use Rattle.segment.specs.Table.{segment_count, segment_at}
use Rattle.export.specs.Answers.{number, no_number, truth}
use Rattle.export.specs.Kinds.{is_kind, are_kinds, class_of, order_of, unless_unknown}
use Rattle.export.specs.declared.answers.NumberAnswer.{NumberAnswer}
use Rattle.export_segments.specs.declared.SegmentAnswer.{SegmentAnswer}
use Rattle.export_segments.specs.declared.SegmentFactsAnswer.{SegmentFactsAnswer}

abbrev pub count_answer : Result ℕ Refusal → NumberAnswer
count_answer (Ok n) = number n
count_answer (Err r) = no_number r

abbrev pub segment_count_answer : (class : ℕ) → (table : List ℕ) → NumberAnswer
segment_count_answer class table =
    unless_unknown no_number (is_kind class) (table ∷ []) (count_answer (segment_count (class_of class) table))

abbrev pub segment_answer : Result Segment Refusal → SegmentAnswer
segment_answer (Ok segment) = record {
  refusal = 0;
  kind = segment.kind;
  flags = segment.flags;
  offset = segment.offset;
  vaddr = segment.vaddr;
  paddr = segment.paddr;
  filesz = segment.filesz;
  memsz = segment.memsz;
  align = segment.align;
}
segment_answer (Err r) = record {
  refusal = r.0;
  kind = 0;
  flags = 0;
  offset = 0;
  vaddr = 0;
  paddr = 0;
  filesz = 0;
  memsz = 0;
  align = 0;
}

abbrev pub segment_at_answer : (class order : ℕ) → (table : List ℕ) → (number : ℕ) → SegmentAnswer
segment_at_answer class order table number =
    segment_answer
    (unless_unknown Err (are_kinds class order) (table ∷ []) (segment_at (class_of class) (order_of order) table number))

abbrev pub entry : (kind flags : ℕ) → Segment
entry kind flags = record {
  kind = kind;
  flags = flags;
  offset = 0;
  vaddr = 0;
  paddr = 0;
  filesz = 0;
  memsz = 0;
  align = 0;
}

abbrev pub kind_number : SegmentKind → ℕ
kind_number Other = 0
kind_number Load = 1
kind_number Dynamic = 2
kind_number Interpreter = 3
kind_number Note = 4

abbrev pub facts : Segment → SegmentFactsAnswer
facts segment = record {
  kind = kind_number (kind_of segment);
  readable = truth (permissions_of segment).readable;
  writable = truth (permissions_of segment).writable;
  executable = truth (permissions_of segment).executable;
}
