pub mod Clauses
pub mod Circuits
pub mod Words
pub mod Bases
pub mod Standing
