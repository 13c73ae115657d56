pub mod NamesByKeys
pub mod Leading
pub mod Deeper
pub mod Finding
pub mod Following
pub mod Searching
-- places in an order
pub mod Ranking
