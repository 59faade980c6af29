pub mod Knowing
pub mod Seeking
pub mod Doing
pub mod Turns
pub mod Asking
pub mod Crews
pub mod Answering
mod Located
pub mod Owners
