pub mod Runs
pub mod Counted
pub mod Placed
pub mod LaneRuns
pub mod PartRuns
pub mod Keeps
pub mod Beginnings
pub mod Closings
