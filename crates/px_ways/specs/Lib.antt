pub mod Ways
pub mod Listed
pub mod Atoms
pub mod Additions
