pub mod Sound
pub mod Tickets
pub mod Once
pub mod Closing
pub mod Bookings
pub mod Statuses
pub mod Ways
