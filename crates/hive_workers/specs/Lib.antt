-- In this order: the items of a history that a worker adds, claims that are outstanding, what a run says, and what is
-- true within one.
pub mod Items
pub mod Outstanding
pub mod Worked
pub mod Working
pub mod Totals
