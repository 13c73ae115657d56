pub mod Found
pub mod Repeated
pub mod Steps
pub mod Kinds
