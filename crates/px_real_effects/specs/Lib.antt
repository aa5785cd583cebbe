pub mod Targets
pub mod Effects
pub mod Views
pub mod WorkedEffects
