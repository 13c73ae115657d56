-- steps, lists, and what differs in them
pub mod Steps
pub mod Lists
pub mod Distinct
-- expressions
pub mod Reading
-- names by number, and what stands at the handles of outputs
pub mod Numbers
pub mod Handles
-- the algorithms as they were built
pub mod Built
-- paths and cycles among so many numbers
pub mod Walking
-- the forest of sequences
pub mod Planted
-- names of which none was refused, and who takes from whom
pub mod Looked
pub mod Taking
-- what expressions see
pub mod Seen
-- what each phase of the definition gave
pub mod Made
-- what cut nodes owe
pub mod Uncovered
-- the job is valid, fact by fact
pub mod Valid
