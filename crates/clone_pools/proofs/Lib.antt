pub mod Naming
pub mod Rooms
pub mod Places
pub mod Counting
pub mod Totals
pub mod Reading
pub mod Answering
