pub mod Listing
pub mod Report
pub mod Books
pub mod Gates
pub mod Ledgers
pub mod Laws
