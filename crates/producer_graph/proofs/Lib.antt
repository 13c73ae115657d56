pub mod Numbering
pub mod Taking
pub mod Pushing
pub mod TakingFrom
pub mod Cycles
pub mod Holding
