pub mod Bitmaps
pub mod Candidates
pub mod Words
