pub mod Routines
pub mod Meaning
pub mod Placed
pub mod Runs
