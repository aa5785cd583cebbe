pub mod Bounds
pub mod Gaps
pub mod Held
pub mod Kept
pub mod Laws
