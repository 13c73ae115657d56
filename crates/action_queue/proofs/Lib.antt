-- Lists first: what they come to where one element changed, or two were joined. Then the rule: it begins, and each step keeps
-- it. Last the passes that come back one by one at the end.
pub mod Lists
pub mod Parts
pub mod Keeps
pub mod Joins
pub mod Ends
