pub mod FedAfter
pub mod CutLemmas
