pub mod History
pub mod Passes
pub mod Locks
pub mod Tries
pub mod Calls
pub mod Rule
mod Examples
