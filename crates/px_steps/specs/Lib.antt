pub mod Led
pub mod Additions
pub mod Accessing
