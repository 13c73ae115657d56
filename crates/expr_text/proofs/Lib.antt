-- tokens of a text: how a printed part is cut into them again
pub mod Lexemes
-- reading is exactly the rules of the grammar
pub mod Parsing
-- what a reading gives depends on no more than the one token after what it takes, so refusals stand at the first wrong token
pub mod Lookahead
-- the tree of what was read: its nodes, its kind, and the phases that come to it
pub mod Building
-- a printed tree is read as that tree
pub mod Printing
