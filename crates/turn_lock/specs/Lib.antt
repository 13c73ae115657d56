-- In this order: what a history is, what a pass knows of it, the rule of the lock, what each step on the lock
-- tells its pass, and the words of the public clauses.
pub mod History
pub mod View
pub mod Tickets
pub mod Steps
pub mod Pass
pub mod Turn
