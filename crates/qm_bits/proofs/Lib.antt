pub mod Activity
pub mod Finding
pub mod Held
pub mod Kept
pub mod Marks
pub mod Packing
pub mod Places
pub mod Rounds
