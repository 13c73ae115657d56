-- In this order: what a legal history is, what each call says of the history that it found, what a pass knows,
-- what a call says of its pass, and what a hall leaves behind.
pub mod Legal
pub mod Says
pub mod Pass
pub mod Calls
pub mod Hold
pub mod Dealing
pub mod Closing
