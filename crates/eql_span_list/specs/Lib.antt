pub mod Chain
pub mod Entries
pub mod Lends
pub mod Ownership
pub mod PlacedNode
