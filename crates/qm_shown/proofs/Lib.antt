pub mod Ended
pub mod LiveBits
pub mod Absences
pub mod Keys
