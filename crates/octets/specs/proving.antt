-- What only contracts inside the crates, and proofs, speak of: laws that upper crates use.
pub mod Identifiers
