-- What the fields of a segment say (gABI, "Program Header").
--     has_flag          whether the bit of a value, a power of two, is set in p_flags
--     permissions_of    p_flags: PF_R 4, PF_W 2, PF_X 1
--     kind_of           p_type: PT_LOAD 1, PT_DYNAMIC 2, PT_INTERP 3, PT_NOTE 4
-- Assumes nothing.
use Rattle.std.specs.Prelude.{ℕ, ◌/◌, ◌%◌, Bool, cond, eqb}
use Rattle.segment_entry.specs.declared.Segment.{Segment}
use Rattle.segment_entry.specs.declared.Permissions.{Permissions}
use Rattle.segment_entry.specs.declared.SegmentKind.{SegmentKind}
use Rattle.segment_entry.specs.declared.SegmentKind.TheVariants.{Load, Dynamic, Interpreter, Note, Other}

abbrev pub has_flag : Segment → (value : ℕ) → Bool
has_flag segment value = eqb (segment.flags / value % 2) 1

abbrev pub permissions_of : Segment → Permissions
permissions_of segment =
    record { readable = has_flag segment 4; writable = has_flag segment 2; executable = has_flag segment 1 }

abbrev pub kind_of : Segment → SegmentKind
kind_of segment =
    cond (eqb segment.kind 1) Load
    (cond (eqb segment.kind 2) Dynamic
    (cond (eqb segment.kind 3) Interpreter
    (cond (eqb segment.kind 4) Note
    Other)))
