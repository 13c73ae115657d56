-- flags of handles, and claims by algorithm, where one is written
pub mod Marking
pub mod Counted
-- the laws: flows follow the scheduler's events, and what follows from a flow is what the definitions say of its event
pub mod Following
pub mod Agreeing
-- loops: handles that arrive, algorithms that are looked for, what is told
pub mod Arrivals
pub mod Waiting
pub mod Reports
-- the tables and the claims stay tied: where an algorithm is claimed or put back, where it has run, where an event begins
pub mod Ties
pub mod Advancing
pub mod Beginning
-- what the tables answer is what contracts say of the flow
pub mod Views
