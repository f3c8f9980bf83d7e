-- `Outcomes`, `Walks` and `Bounds` are for whoever walks over records. `Outcomes`: what a step that can be refused comes
-- to. `Walks`: lists of records, over any record. `Bounds`: where a record's places lie, and so how its list goes on.
pub mod Bounds
pub mod Outcomes
pub mod Walks
