pub mod Words
pub mod Adds
pub mod Block
pub mod Held
pub mod Left
pub mod Ownership
pub mod Packed
