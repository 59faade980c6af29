pub mod Lines
pub mod Machine
pub mod Sound
pub mod Grammar
pub mod Text
pub mod LineRows
pub mod CurrentLineRows
