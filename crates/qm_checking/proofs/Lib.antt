mod Spelled
mod Sayings
