pub mod LooksManifest
pub mod Laws
