pub mod Roles
pub mod Cutting
pub mod Scan
pub mod Shape
