pub mod OneFollowed
pub mod LaterWrites
pub mod Comparisons
pub mod TakenNumbers
pub mod NewCells
mod ActLemmas
mod ChainLemmas
mod ListLemmas
mod PassLemmas
mod BodyLemmas
mod LoopLemmas
mod Sizes
pub mod TakenBlocks
pub mod ConfineEvents
pub mod Confine
pub mod ConfineForms
pub mod ConfineActs
pub mod Consumed
pub mod ConfineTests
pub mod ConfineCalls
pub mod ConfineTrees
pub mod ReachActs
pub mod ReachTrees
pub mod ReachStatements
pub mod ReachCalls
pub mod ConfineLaw
pub mod ReplayLaw
