pub mod Loops
mod OneProgram
mod PlaceOrder
mod ItemOrder
pub mod Outcomes
pub mod Allowed
