pub mod Parsed
pub mod Policies
pub mod Ports
pub mod Views
pub mod Written
