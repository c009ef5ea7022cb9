pub mod Outcome
pub mod Composing
pub mod Counts
pub mod Leaves
pub mod Code
pub mod proving
