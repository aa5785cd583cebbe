pub mod Works
pub mod Laws
