pub mod EndLemmas
pub mod ExternalLemmas
pub mod FileLemmas
