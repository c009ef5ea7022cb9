-- What only contracts inside the crate, and proofs, speak of: what is found once for all types, and one step of the way
-- through references and tags. Outermost tags, the first tags of a list during its check, and what the check of one
-- type returns.
pub mod Columns
pub mod TagStep
pub mod Heads
pub mod Lists
pub mod Checks
pub mod Reported
