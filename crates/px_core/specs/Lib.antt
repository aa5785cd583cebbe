pub mod CommandTree
pub mod BodyTree
pub mod Sizes
pub mod WellFormed
pub mod Constants
pub mod Control
pub mod WellFormedItems
