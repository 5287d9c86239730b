pub mod Appending
pub mod Joining
mod Lengths
