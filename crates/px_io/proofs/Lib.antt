pub mod FailureLemmas
pub mod FaultLemmas
pub mod TellingLemmas
pub mod SourceLemmas
