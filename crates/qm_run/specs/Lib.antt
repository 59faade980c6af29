pub mod Schemes
pub mod Program
pub mod Endings
