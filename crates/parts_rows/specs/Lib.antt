pub mod Rooms
pub mod Following
pub mod Settling
pub mod Taken
