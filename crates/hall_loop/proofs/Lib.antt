pub mod Given
pub mod Others
pub mod Works
pub mod Telling
pub mod Steps
pub mod HandedOut
pub mod Admissions
pub mod Retirements
pub mod Closing
pub mod Openings
pub mod Recalls
pub mod LeftResults
pub mod Settlements
pub mod Turns
-- what was seen of why nothing will be claimed any more
pub mod Causes
-- what the loop has done
pub mod Deeds
-- what the loop holds
pub mod Holding
