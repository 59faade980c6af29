pub mod Selecting
pub mod Refusing
pub mod Rebuilt
pub mod Checking
pub mod Empty
pub mod Heads
pub mod Unopened
