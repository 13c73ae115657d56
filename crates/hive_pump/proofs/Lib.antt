-- records whose reports were written, and those that follow
pub mod Windows
-- what may still be written
pub mod Texts
-- the course of a run goes on by a report
pub mod Courses
-- a report that was due
pub mod Shown
-- the input goes on
pub mod Inputs
-- and how reading stops
pub mod Stopping
-- the loop runs out
pub mod Draining
-- and the run is brought to its end
pub mod Finishing
-- a run that goes on
pub mod Going
-- what a run came to
pub mod Pumping
-- a run beside workers
pub mod Companions
