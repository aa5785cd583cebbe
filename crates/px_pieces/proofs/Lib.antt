pub mod Descent
pub mod Moments
pub mod Counts
pub mod LegalLemmas
