pub mod Twice
pub mod LeafCounts
pub mod Distinct
pub mod Inside
pub mod Checks
