pub mod Movers
pub mod Machine
pub mod Kept
pub mod Moves
pub mod Holding
pub mod Starts
