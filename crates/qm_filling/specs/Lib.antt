pub mod Filled
pub mod Says
