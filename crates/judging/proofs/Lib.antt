pub mod Refused
mod Rows
pub mod Verdicts
