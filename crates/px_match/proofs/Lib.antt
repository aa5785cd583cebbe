pub mod CaseLemmas
pub mod Lengths
pub mod Tests
pub mod Operands
pub mod PathLimitLemmas
pub mod LongLemmas
pub mod WordLemmas
pub mod StandLemmas
