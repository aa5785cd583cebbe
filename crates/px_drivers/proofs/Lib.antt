pub mod DriverLemmas
pub mod CrewLemmas
pub mod VersionLemmas
