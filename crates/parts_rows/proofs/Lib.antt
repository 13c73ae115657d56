-- Pools stay the pools of a job; the slots that are taken.
pub mod Rooms
pub mod Boards
