pub mod Sweeping
pub mod Forms
pub mod Meanings
pub mod Rule
pub mod ModelLaw
pub mod Gathering
pub mod Bounding
pub mod Holding
