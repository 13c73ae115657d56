-- lists
pub mod Counting
-- an entry, and what it makes of the claims and the work
pub mod Entries
pub mod Effects
-- nothing is outstanding
pub mod Quiet
-- a turn that performs an algorithm
pub mod Ran
-- counts, and results that wait
pub mod Tallies
pub mod Window
-- what an entry makes of the state, and the tally that holds on; claims may be outstanding
pub mod Moves
pub mod Tallying
-- a turn that ends an event
pub mod Ended
-- what each call of the loop leaves true
pub mod Loops
pub mod Rooms
