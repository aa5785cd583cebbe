pub mod EnumeratedExact
pub mod AddLemmas
pub mod NameLemmas
