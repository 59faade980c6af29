pub mod Sizes
pub mod Views
pub mod Slots
pub mod Reads
pub mod Listed
