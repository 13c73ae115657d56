pub mod Evaluation
pub mod Round
