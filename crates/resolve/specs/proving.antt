-- Definitions that only contracts inside the crate and proofs use.
pub mod Unknown
pub mod Assembled
pub mod Ordered
