pub mod Enumerated
pub mod Behind
