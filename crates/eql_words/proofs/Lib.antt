pub mod Numerals
pub mod Lines
pub mod Shards
pub mod Bounding
pub mod Spellings
