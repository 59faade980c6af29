pub mod Steps
pub mod Canonical
pub mod Kept
