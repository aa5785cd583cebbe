pub mod Kinds
pub mod Stats
pub mod After
pub mod Ways
pub mod Findings
pub mod Answers
