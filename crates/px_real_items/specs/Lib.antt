pub mod Ends
pub mod Externals
pub mod Trees
pub mod Files
