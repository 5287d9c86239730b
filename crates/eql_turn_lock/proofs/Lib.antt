pub mod Histories
pub mod Views
pub mod Counts
pub mod Keeps
pub mod Turns
pub mod Readings
pub mod Sends
