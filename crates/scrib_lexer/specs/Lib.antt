pub mod Lexeme
pub mod Words
pub mod Pieces
pub mod Tokens
pub mod Steps
