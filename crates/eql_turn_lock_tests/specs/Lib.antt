pub mod Meetings
pub mod Trays
