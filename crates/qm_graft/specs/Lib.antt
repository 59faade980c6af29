pub mod Grafting
pub mod Numbers
pub mod Trees
