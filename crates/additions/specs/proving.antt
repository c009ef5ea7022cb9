-- Definitions for contracts inside the crate and for proofs: the results of checks of one type or one list.
pub mod Checks
pub mod Reported
