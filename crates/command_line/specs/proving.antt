-- Definitions for contracts inside the crate and for proofs: what commands take.
pub mod Arguments
