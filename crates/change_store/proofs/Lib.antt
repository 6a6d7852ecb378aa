mod CommitLemmas
pub mod OpeningLemmas
mod RowLemmas
