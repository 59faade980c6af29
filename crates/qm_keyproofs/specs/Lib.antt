pub mod Claims
pub mod Views
pub mod Lent
pub mod Exclusions
