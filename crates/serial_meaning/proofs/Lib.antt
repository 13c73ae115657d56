-- lists, on which the others stand
pub mod Joined
pub mod Any
-- expressions, nodes and places
pub mod Values
pub mod Nodes
pub mod Stores
-- one round, and all of them
pub mod Turns
pub mod Rounds
