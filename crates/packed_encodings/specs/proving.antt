-- What only contracts inside the crates, and proofs, speak of: laws that upper crates use.
pub mod Natural
pub mod Tests
pub mod Bounding
pub mod Words
pub mod Lists
pub mod Groups
