pub mod Exact
pub mod Going
pub mod Lines
pub mod Listed
pub mod Parts
pub mod RowsOfShown
pub mod RowsOfListing
