pub mod ProofForms
pub mod Reading
pub mod Claims
pub mod Checked
