-- lists, and the trees of expressions
pub mod Lists
pub mod Trees
pub mod Executions
-- one node: its decision and what it enters, one sequence deep
pub mod Nesting
pub mod Entered
-- paths over sequences and over inputs, and valid jobs
pub mod Depths
pub mod Forward
pub mod ClosedCuts
pub mod Validity
pub mod ValidExamples
-- what stays when more algorithms have run: options and lists of them, then decisions, what is reached, and the store
pub mod Staying
pub mod Settling
pub mod Reaching
pub mod Stores
-- reached places, and what stands in the store, without the recursion of the definitions
pub mod Placing
pub mod Entering
pub mod Outputs
pub mod Holding
-- the closure: rounds by number, the fixed point by counting, what lies within it, and how it is made
pub mod Rounds
pub mod Fixed
pub mod Within
pub mod Additions
-- results by their executions alone, jobs without cut nodes, and agreement
pub mod Meaning
pub mod Uncut
pub mod Agreeing
-- `==` is equality
pub mod Same
