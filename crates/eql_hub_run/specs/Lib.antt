pub mod Beside
pub mod Workers
pub mod Gathers
pub mod Conducted
