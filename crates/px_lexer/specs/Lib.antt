pub mod Bytes
pub mod Kept
pub mod Lent
pub mod Places
pub mod Scanning
pub mod Spelling
pub mod Tokens
