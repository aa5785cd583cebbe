pub mod LedLemmas
pub mod PathLimitLemmas
pub mod LoopLemmas
pub mod LongLemmas
pub mod AccessLemmas
pub mod AccessLimits
pub mod InputLemmas
pub mod DivideLemmas
