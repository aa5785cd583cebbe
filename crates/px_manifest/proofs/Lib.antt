pub mod MovedBlocks
pub mod ChosenValues
pub mod ManifestEntries
pub mod TestLemmas
