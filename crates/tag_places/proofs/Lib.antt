pub mod Counting
pub mod Keyed
pub mod Sorting
