pub mod Trees
pub mod Codes
