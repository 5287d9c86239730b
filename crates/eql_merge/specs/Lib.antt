pub mod Ranks
pub mod Fronts
