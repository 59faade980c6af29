pub mod Drawn
pub mod Keys
pub mod Assembly
pub mod Parts
pub mod Counting
pub mod Tallied
pub mod Sizes
