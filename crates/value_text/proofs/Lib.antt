pub mod Steps
pub mod Bits
pub mod Doubled
pub mod Members
pub mod Items
pub mod Typing
pub mod Fields
pub mod Rows
