pub mod Crossed
pub mod Joined
pub mod Parted
pub mod Sayings
