-- What only contracts inside the crate, and proofs, speak of.
pub mod Outcomes
pub mod Reading
pub mod Turns
pub mod Stopping
