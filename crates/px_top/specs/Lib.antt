pub mod Words
pub mod Bounds
pub mod Samples
pub mod Runs
pub mod NoFalseAlarm
pub mod Laws
