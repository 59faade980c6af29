pub mod Spans
mod Waiting
