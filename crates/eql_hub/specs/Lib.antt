pub mod Turns
pub mod Hands
pub mod Later
pub mod Steps
pub mod Sweeps
