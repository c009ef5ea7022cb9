pub mod Faults
pub mod Encoded
