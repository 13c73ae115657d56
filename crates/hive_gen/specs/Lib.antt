pub mod Draws
pub mod Events
pub mod EventTexts
pub mod OptionsText
pub mod Rest
