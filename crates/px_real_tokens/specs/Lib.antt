pub mod Bytes
pub mod Cursors
pub mod Scanning
pub mod Spelling
pub mod Tokens
pub mod Values
