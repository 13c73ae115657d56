-- items and histories
pub mod Items
pub mod Admissions
pub mod Histories
-- one step of a board, call by call
pub mod Steps
-- what a pass knows, before, inside and after a call
pub mod Positions
pub mod Passes
pub mod Follows
pub mod Booking
pub mod Dealing
pub mod Gathering
