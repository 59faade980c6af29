pub mod Begun
pub mod Peaks
pub mod Rooting
mod Following
pub mod Fitting
pub mod There
pub mod Viewing
