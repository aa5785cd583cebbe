pub mod ArgumentLemmas
pub mod CallLemmas
pub mod ChainLemmas
pub mod FallLemmas
pub mod OperandLemmas
pub mod SiteLemmas
pub mod SpelledLemmas
pub mod StarLemmas
