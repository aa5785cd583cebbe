pub mod StatementLemmas
pub mod FreeLemmas
