pub mod FieldLoops
pub mod ItemExact
pub mod ParseLemmas
pub mod NameLemmas
pub mod RefusalExact
pub mod Existence
