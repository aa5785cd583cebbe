pub mod LoopLemmas
pub mod UseLemmas
