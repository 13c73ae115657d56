-- lists, and names that stand before already
pub mod Lists
pub mod Repetitions
-- what is built element by element, and the sequences with their members
pub mod Collecting
pub mod Forests
-- the phases of the definition, one after another, and that what they answer is valid
pub mod Phases
