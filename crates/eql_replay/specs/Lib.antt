pub mod Noting
pub mod Trails
pub mod Pools
pub mod Listed
pub mod Opened
