pub mod Laws
pub mod WorkedTriples
