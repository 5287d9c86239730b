pub mod Searches
pub mod Beginnings
pub mod Keeping
pub mod Answers
pub mod Running
pub mod Outcomes
