pub mod Cuts
pub mod Mems
pub mod Changes
pub mod Exits
