pub mod Lowering
pub mod Chains
pub mod LoweredProgram
pub mod Scopes
pub mod LoweringKeeps
pub mod BodiesKeep
pub mod WorkedBodies
