-- tokens of the rest of a text
pub mod TokenLists
-- the tokens of a text that was printed
pub mod Lexing
