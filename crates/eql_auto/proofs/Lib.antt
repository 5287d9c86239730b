pub mod Bits
pub mod Written
pub mod Moving
pub mod Tags
pub mod Sweeping
pub mod Turning
mod Counting
mod Halves
