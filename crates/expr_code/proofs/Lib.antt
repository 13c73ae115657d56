-- where a handle's product stands
pub mod Handles
-- an expression on the stack
pub mod Stacks
-- the outputs of an execution, one after another
pub mod Outputs
