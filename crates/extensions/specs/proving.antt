-- Definitions that only contracts inside the crate and proofs use.
pub mod Tables
pub mod Cores
pub mod Items
pub mod Defaults
