pub mod Dots
pub mod Once
pub mod Rows
pub mod RowsOfMeanings
