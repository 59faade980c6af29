pub mod Batches
pub mod Mems
