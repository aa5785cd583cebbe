pub mod Lexemes
pub mod Reading
pub mod Grammar
pub mod Terminals
