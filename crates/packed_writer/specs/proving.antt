pub mod Values
pub mod Fields
