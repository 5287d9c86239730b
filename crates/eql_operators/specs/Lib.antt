pub mod Taken
pub mod Prepared
