pub mod Passes
pub mod Places
pub mod Stepping
pub mod Running
