pub mod Outcomes
mod KindLemmas
mod KindPlaces
pub mod ThreeDomains
pub mod StatsLemmas
