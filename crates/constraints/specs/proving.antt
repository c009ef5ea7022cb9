-- Definitions for contracts inside the crate and for proofs.
pub mod Characters
pub mod Meanings
pub mod Limits
pub mod Columns
pub mod Reported
