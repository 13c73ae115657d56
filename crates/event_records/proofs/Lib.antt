-- a text cut at a separator
pub mod Cuts
-- a line without a quote, cut at commas
pub mod PlainCells
-- the value of digits
pub mod Digits
-- what `csv` reads from a line
pub mod QuotedCells
-- where the first line ends
pub mod LineEnds
-- what is read element by element
pub mod Collecting
-- one line after another
pub mod Turns
-- where no line is left
pub mod Settling
-- what stays when more of a text comes
pub mod Growing
-- records fit their job
pub mod Fitting
-- how long a text can be that may go on, and how many records any has
pub mod Bounds
