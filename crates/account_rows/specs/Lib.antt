pub mod Lengths
pub mod RowLayout
pub mod Meaning
