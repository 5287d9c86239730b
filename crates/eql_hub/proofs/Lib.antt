pub mod Lists
pub mod Views
pub mod Tries
pub mod Sweeping
pub mod Growing
pub mod Sends
