pub mod Locked
pub mod Benched
