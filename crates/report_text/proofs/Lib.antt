-- a line by its words
pub mod Spaces
