pub mod Reading
pub mod OnDisks
pub mod Heads
pub mod CutRefusing
pub mod Overs
pub mod OwnCuts
pub mod Refusing
pub mod Listing
pub mod Limits
pub mod Counting
pub mod Covering
pub mod Deciding
pub mod PutCuts
pub mod Testing
pub mod LeftCuts
pub mod FeedLemmas
pub mod ListingLines
pub mod RowsOfRuns
pub mod Ending
mod MadeQuery
mod MadeTexts
