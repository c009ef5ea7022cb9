-- Definitions for contracts inside the crate and for proofs.
pub mod Keeping
pub mod Edges
pub mod Placed
pub mod Groups
pub mod Pairs
