pub mod Mentions
pub mod ReadySets
pub mod Telling
pub mod Arriving
pub mod Founded
pub mod Indexing
