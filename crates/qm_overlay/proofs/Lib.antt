pub mod Applying
pub mod Bytes
pub mod Laying
pub mod Marking
pub mod Puts
pub mod Shifting
pub mod Stacks
