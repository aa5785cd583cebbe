pub mod Lexemes
pub mod Operators
pub mod ExpressionTree
pub mod Stops
pub mod Held
pub mod Grammar
pub mod Reading
