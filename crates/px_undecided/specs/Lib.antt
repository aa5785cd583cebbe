pub mod Counting
pub mod CountTexts
pub mod Laws
