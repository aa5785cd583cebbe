pub mod TableLemmas
pub mod ArgumentLemmas
pub mod ChainLemmas
pub mod PlaceLemmas
pub mod FunctionLemmas
pub mod NumberLaw
