pub mod Halving
pub mod Listing
pub mod Folding
pub mod Telling
pub mod Keeping
