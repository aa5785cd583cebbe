pub mod Drivers
pub mod Crews
pub mod Rounds
