pub mod Waiting
pub mod Loop
pub mod Running
pub mod Performing
