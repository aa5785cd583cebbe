pub mod Covered
pub mod WorkedCovers
pub mod Frees
pub mod Laws
pub mod FullerLaws
