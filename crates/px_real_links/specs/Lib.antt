pub mod Files
pub mod Fates
pub mod Callees
