pub mod Building
pub mod Built
pub mod Cached
pub mod Reads
pub mod Linked
pub mod Reasons
pub mod Proved
