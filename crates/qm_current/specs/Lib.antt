pub mod Databases
pub mod Applying
pub mod Making
pub mod Offered
pub mod Lasting
pub mod Opening
pub mod Reading
pub mod Shown
