pub mod Frames
pub mod Feeding
pub mod Stages
pub mod Cutting
