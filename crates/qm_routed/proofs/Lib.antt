pub mod Marked
pub mod Projection
pub mod Ranges
pub mod RoutedRows
