pub mod Octets
pub mod Rows
pub mod Tables
pub mod Lengths
pub mod proving
