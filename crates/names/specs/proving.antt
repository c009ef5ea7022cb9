-- What only contracts inside the crates, and proofs, speak of: definitions for the functions that gather names, and
-- laws that upper crates use.
pub mod Lookup
pub mod Tabled
pub mod Gathering
pub mod Standing
pub mod Ready
pub mod Distinct
pub mod Meanings
pub mod Rows
pub mod Reports
