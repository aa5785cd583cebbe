pub mod CommandReading
pub mod CommandLoops
pub mod CommandRoundTrips
pub mod Spells
pub mod PartsSpelled
pub mod CommandsSpelled
pub mod BodyLaw
pub mod Smaller
