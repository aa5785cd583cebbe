pub mod Items
pub mod NoCalls
pub mod Walks
pub mod Few
pub mod Nexts
pub mod Starts
