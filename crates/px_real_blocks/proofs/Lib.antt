pub mod StatementEquations
pub mod ReaderEquations
pub mod PhraseLemmas
pub mod Loops
pub mod BodyLemmas
