pub mod Comparisons
pub mod Held
pub mod Kept
pub mod Laws
pub mod Searches
