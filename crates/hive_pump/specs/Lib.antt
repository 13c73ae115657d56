-- In this order: what was read, what is written of it, what a run came to; texts written as a step, the input, the course of
-- a run; and then a run on one thread, and one beside workers.
pub mod Reading
pub mod Written
pub mod Pumped
pub mod Steps
pub mod Input
pub mod Course
pub mod Going
pub mod Beside
