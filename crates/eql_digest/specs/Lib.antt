pub mod Checksums
pub mod Digests
pub mod Words
pub mod Laws
pub mod Rows
