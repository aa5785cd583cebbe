mod FollowLemmas
mod GivenWords
mod LookLemmas
pub mod AmongLemmas
