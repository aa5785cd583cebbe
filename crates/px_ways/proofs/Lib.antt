pub mod ContentLemmas
pub mod LoopLemmas
pub mod AtomLemmas
pub mod BlockLemmas
pub mod Additions
pub mod DivisionLemmas
pub mod ListedLemmas
