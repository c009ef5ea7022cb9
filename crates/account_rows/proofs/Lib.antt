pub mod Joins
pub mod Leaves
pub mod Placing
pub mod Rows
pub mod RowLayout
