pub mod Leading
pub mod Lefts
pub mod Moves
pub mod OrderRows
pub mod Orders
pub mod Times
pub mod Unions
