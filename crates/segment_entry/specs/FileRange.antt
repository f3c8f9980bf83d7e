-- Need not be believed: p_offset and p_filesz. The contract of `Segment::file_range` cites it, which no exported function
-- calls. Assumes nothing.
use Rattle.segment_entry.specs.declared.Segment.{Segment}
use Rattle.segment_entry.specs.declared.FileRange.{FileRange}

abbrev pub file_range : Segment → FileRange
file_range segment = record { offset = segment.offset; size = segment.filesz }
