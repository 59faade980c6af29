pub mod Crews
pub mod Orders
pub mod Turned
pub mod Views
