pub mod Addressed
pub mod Views
pub mod WorkedNames
