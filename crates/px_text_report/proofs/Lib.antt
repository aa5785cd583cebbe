mod ListLemmas
pub mod FirstLemmas
mod DropLemmas
pub mod BugLemmas
mod FaultLemmas
