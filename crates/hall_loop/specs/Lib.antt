-- In this order: what a loop keeps of the events that it admitted, what the others in its hall do, what is true of a
-- loop beside workers and what its calls say, and how it begins and ends.
pub mod Window
pub mod Others
pub mod Beside
pub mod Opened
pub mod Settled
