pub mod Ends
pub mod Links
