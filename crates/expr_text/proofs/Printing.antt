-- the tree under a node of a list
pub mod NodeLists
-- the printed text is read as the tree
pub mod ReadBack
