pub mod Layers
pub mod Marks
