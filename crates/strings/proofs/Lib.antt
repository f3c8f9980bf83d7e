-- For whoever cites this crate: `Inside`: where a string that was read lies; `Meaning`: what a comparison decides;
-- `Readable`: which strings can be read.
pub mod Inside
pub mod Meaning
pub mod Readable
