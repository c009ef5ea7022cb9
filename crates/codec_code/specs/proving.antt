-- What only contracts inside the crates, and proofs, speak of: laws that upper crates use.
pub mod Wrapped
pub mod Inversion
pub mod Present
pub mod Join
