pub mod Reading
pub mod Gives
pub mod Cutting
pub mod Held
pub mod Kept
