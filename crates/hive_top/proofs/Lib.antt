-- what was called, by what the counts say
pub mod DueLaws
-- what a run came to, and what stopped a call
pub mod CameTo
pub mod Calls
-- the job of a text that was fetched
pub mod Jobs
-- the run of a job, by its run and its last flush
pub mod Runs
-- pieces of a line
pub mod Joined
-- the journal, and its text
pub mod Journals
pub mod Pieces
pub mod Tracing
-- runs of generated records
pub mod Generating
-- what a call came to
pub mod Tasks
pub mod Endings
