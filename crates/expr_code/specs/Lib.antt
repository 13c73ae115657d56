pub mod Claim
pub mod Frame
pub mod Stack
