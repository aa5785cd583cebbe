pub mod Controls
pub mod Jumps
pub mod StartLemmas
pub mod LedFacts
pub mod FewLemmas
pub mod NextLemmas
pub mod ResultLemmas
