pub mod Bounds
pub mod LimitNumbers
pub mod Texts
