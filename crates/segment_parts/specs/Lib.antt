pub mod Interpreter
pub mod SegmentNotes
