pub mod HonestLemmas
