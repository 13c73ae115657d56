-- claims that are outstanding, over journals
pub mod OlderClaims
-- positions of histories
pub mod Standing
-- claims that are accounted for
pub mod Accounts
-- what a call leaves of a pass
pub mod Moves
pub mod Works
-- a run, call by call
pub mod Turns
-- from the beginning to the end
pub mod Runs
-- the counts of all workers
pub mod Totals
