-- what a node enters, and the places that control flow has reached
pub mod Entering
pub mod Places
-- the store's outputs, and how results come about
pub mod Outputs
pub mod Due
pub mod Additions
pub mod Rest
-- jobs: nodes in their order, without cut nodes, and worked ones
pub mod Forest
pub mod Uncut
pub mod Forward
pub mod Examples
