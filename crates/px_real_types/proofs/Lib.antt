pub mod AttributeLemmas
pub mod DeclaratorLemmas
pub mod SuffixedLemmas
pub mod StaticLemmas
pub mod MemberLemmas
pub mod NothingLemmas
