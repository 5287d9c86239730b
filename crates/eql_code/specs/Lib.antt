pub mod Machine
pub mod Code
pub mod Texts
pub mod Folds
pub mod Stack
pub mod CodeExamples
