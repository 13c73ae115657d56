pub mod Slots
pub mod Seats
pub mod Claiming
pub mod Attempts
pub mod Booking
pub mod Places
pub mod Standings
pub mod Orders
