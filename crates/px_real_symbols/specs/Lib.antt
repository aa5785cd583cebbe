pub mod Words
pub mod Symbols
pub mod Answers
pub mod Turns
