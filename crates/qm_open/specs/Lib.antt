pub mod Selecting
pub mod Opened
pub mod Broken
pub mod Unopened
