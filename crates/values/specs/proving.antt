-- What only contracts inside the crate, and proofs, speak of.
pub mod Arranging
pub mod Judging
