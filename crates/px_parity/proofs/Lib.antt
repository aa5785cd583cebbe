pub mod BitLemmas
pub mod Parities
pub mod Lists
pub mod Sums
pub mod Eliminating
pub mod Rule
pub mod Holding
