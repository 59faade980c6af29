pub mod ProofForms
pub mod ProofFormRows
pub mod Tags
pub mod Views
pub mod Claims
pub mod Provable
