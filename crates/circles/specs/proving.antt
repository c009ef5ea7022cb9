-- Definitions for contracts inside the crate and for proofs: the marks and ranks of a search.
pub mod Reach
pub mod Ranks
