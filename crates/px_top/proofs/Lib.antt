mod WordLemmas
mod RunLemmas
mod LawLemmas
pub mod Requests
