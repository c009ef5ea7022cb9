pub mod Tagging
pub mod Constraints
