pub mod Lists
pub mod Parts
pub mod Sources
pub mod Takers
pub mod Cycle
pub mod Acyclic
pub mod Sizes
