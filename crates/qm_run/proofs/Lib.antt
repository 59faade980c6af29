pub mod Machines
pub mod Sayings
pub mod Handed
