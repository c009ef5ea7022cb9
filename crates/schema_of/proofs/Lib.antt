pub mod Lists
pub mod ValuesOfTypes
pub mod Resolved
pub mod Rows
