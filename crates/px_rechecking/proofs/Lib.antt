pub mod Outcomes
pub mod KeepOutcomes
mod FoundLemmas
mod KindLemmas
mod LineLemmas
