pub mod Members
pub mod Below
pub mod Shape
