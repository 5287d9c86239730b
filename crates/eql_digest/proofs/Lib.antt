pub mod Divisions
pub mod Bursts
pub mod Taking
pub mod Blocks
pub mod Pieces
pub mod Changes
