pub mod Analysable
pub mod ManifestBugs
pub mod LeaksIn
pub mod Told
pub mod Laws
