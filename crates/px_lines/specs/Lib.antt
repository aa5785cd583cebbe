pub mod Sinks
pub mod Lines
pub mod Statuses
pub mod Causes
