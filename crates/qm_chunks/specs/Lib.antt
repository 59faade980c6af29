pub mod Bare
pub mod Lowered
pub mod Rising
pub mod Rows
pub mod Views
