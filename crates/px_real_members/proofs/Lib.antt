pub mod CommaLoops
pub mod LineLoops
pub mod WholeLemmas
