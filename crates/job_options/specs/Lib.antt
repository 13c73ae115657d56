pub mod Known
pub mod Seen
pub mod Found
pub mod Told
pub mod Uncut
