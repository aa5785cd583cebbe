pub mod Bits
pub mod Equations
pub mod Held
pub mod Laws
