-- what options texts mean, computed
mod OnLiterals
mod AsciiTexts
-- the generated options
mod OptionsRead
-- numbers are read as they are written
mod Numbers
-- the bytes of what is written
mod Bytes
mod Written
-- a list in a cell
mod ListCells
-- the line of an event
mod EventLines
-- the whole text
mod Reading
-- the events fit the job
mod Fitting
-- the executions of the three algorithms
mod Executing
-- the rounds of an event
mod Rounding
mod Counting
