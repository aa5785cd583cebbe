pub mod MixedLinks
pub mod MixedSpawners
