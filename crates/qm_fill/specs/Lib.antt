pub mod Draws
pub mod Commands
pub mod Summary
pub mod Words
pub mod Rows
