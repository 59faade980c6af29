pub mod Listing
pub mod Holding
pub mod Chunking
pub mod Viewed
