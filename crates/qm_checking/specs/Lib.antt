pub mod Checking
pub mod CheckRows
pub mod Views
pub mod Says
