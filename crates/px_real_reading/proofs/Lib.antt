pub mod TreeEquations
pub mod Loops
pub mod ReaderEquations
pub mod HeadLemmas
pub mod Deeper
pub mod WholeLemmas
pub mod WorkedByReading
