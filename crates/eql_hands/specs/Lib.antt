pub mod Growth
pub mod Runs
pub mod Examples
