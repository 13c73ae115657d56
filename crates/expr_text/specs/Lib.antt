pub mod Gives
pub mod Parts
pub mod Assembly
pub mod Printed
pub mod Stops
