pub mod Names
pub mod Values
pub mod Constraints
pub mod Types
pub mod Modules
