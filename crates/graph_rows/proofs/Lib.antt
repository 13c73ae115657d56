pub mod DistinctNames
pub mod HandleCounts
