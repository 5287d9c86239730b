pub mod Fronts
pub mod Errors
pub mod Steps
pub mod Shelves
