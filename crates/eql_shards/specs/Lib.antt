pub mod Shards
pub mod Lanes
pub mod Giving
pub mod Reports
