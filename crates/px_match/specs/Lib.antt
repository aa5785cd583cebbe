pub mod Matching
pub mod Operated
pub mod PathLimits
pub mod Through
