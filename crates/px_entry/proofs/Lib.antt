pub mod Lists
pub mod TestLemmas
pub mod ScopeLemmas
pub mod RuleLemmas
