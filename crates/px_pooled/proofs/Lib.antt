pub mod FoundInBooks
pub mod TurnLemmas
pub mod TallyLemmas
pub mod OwnLemmas
pub mod EndLemmas
