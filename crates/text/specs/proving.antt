-- Laws that proofs use, also those of the crates above.
pub mod Numbers
