pub mod Known
pub mod Working
pub mod Answering
pub mod Sharing
