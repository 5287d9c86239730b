pub mod PartSteps
pub mod Inboxes
pub mod Viewed
pub mod Spreading
pub mod PartExamples
