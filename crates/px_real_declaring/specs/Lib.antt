pub mod Trees
pub mod Suffixes
pub mod Items
pub mod Whole
