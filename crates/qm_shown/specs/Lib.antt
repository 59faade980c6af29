pub mod Beside
pub mod Refusals
