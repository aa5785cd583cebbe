pub mod Steps
pub mod Uses
pub mod Logs
pub mod Verdicts
pub mod Searches
pub mod Denials
