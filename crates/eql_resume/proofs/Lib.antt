pub mod Found
pub mod Begun
pub mod Taken
pub mod Lifted
