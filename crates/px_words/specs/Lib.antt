pub mod OptionTable
pub mod Arguments
pub mod Spelling
pub mod Meaning
pub mod Samples
pub mod WorkedCommands
pub mod ClapCommand
