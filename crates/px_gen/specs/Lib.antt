pub mod Draws
pub mod Procedures
pub mod Range
pub mod Samples
pub mod WorkedSample
