pub mod KeyTables
pub mod Links
pub mod Routed
pub mod Kept
pub mod Played
pub mod Hashes
pub mod Indexed
pub mod Rooms
