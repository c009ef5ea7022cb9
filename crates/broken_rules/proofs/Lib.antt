-- Proofs of the crate.
pub mod RowsOfViolations
mod Asked
