pub mod Any
pub mod Current
pub mod Words
