-- the steps of a reading, one by one
pub mod Readings
-- operands with operators between, and what ends them
pub mod Rows
-- what follows the rules is read so
pub mod Complete
-- what is read follows the rules
pub mod Sound
