pub mod Shapes
pub mod Types
pub mod Words
pub mod Scopes
pub mod Specifiers
pub mod Declarators
pub mod Cells
pub mod Linkage
