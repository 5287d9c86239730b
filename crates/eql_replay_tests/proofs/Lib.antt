pub mod Pushed
pub mod Begun
