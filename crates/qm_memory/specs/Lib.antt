pub mod Changes
pub mod ChangeViews
pub mod Mem
pub mod MemRows
pub mod DamagedRows
