-- Definitions that only contracts inside the crates and proofs use. They are walks through references, notes for types,
-- cores that are found one after another, and sets of numbers. Further ones are the results of the checks of one type,
-- a table as it is in memory, and worked rows.
pub mod Walks
pub mod Notes
pub mod Cores
pub mod Sets
pub mod Checks
pub mod Tables
pub mod ItemRows
