pub mod Telling
pub mod Printing
pub mod Running
pub mod Outcomes
