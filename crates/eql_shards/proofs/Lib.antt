pub mod BackLemmas
pub mod LendingLemmas
pub mod ShardLemmas
pub mod MakingLemmas
pub mod PlainText
pub mod ReportLemmas
