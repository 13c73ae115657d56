mod OnLiterals
mod Digits
mod AsciiTexts
