-- lists of which one place changes, and then the slots
pub mod Counting
pub mod Slots
-- a slot and a pool change together
pub mod Moving
-- nothing is claimed: at first, where an event begins, where one ends
pub mod Opening
-- a claim, with its loan
pub mod OneClaim
-- and its end
pub mod GivingBack
-- what may be lent
pub mod WhatIsLent
-- a loan that comes back at once, and what may come back
pub mod Undoing
