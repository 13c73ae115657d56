-- In this order: what a pass knows, the rule of the queue, what each step tells its pass, and the words of the
-- public clauses.
pub mod View
pub mod Rule
pub mod Steps
pub mod Passes
