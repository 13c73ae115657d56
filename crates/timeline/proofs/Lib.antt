-- how texts are cut, and how numbers are written and read
pub mod Cuts
pub mod Numbers
-- the words of one entry: they are read as it, and no others are
pub mod Words
pub mod Back
-- lines one after another, and whole texts
pub mod Steps
pub mod RoundTrip
pub mod Exact
-- what single functions cite
pub mod Fronts
pub mod Few
