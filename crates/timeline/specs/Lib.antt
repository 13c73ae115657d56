pub mod Begins
pub mod Left
pub mod Reads
