pub mod Errors
pub mod Stops
pub mod Searching
pub mod Starting
pub mod Running
pub mod Finding
pub mod Outcomes
pub mod LaneOutcomes
