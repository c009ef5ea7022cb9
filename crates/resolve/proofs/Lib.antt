pub mod Assembling
pub mod Exclusion
pub mod Firsts
pub mod Whole
pub mod Notations
pub mod OneFault
pub mod OneLink
pub mod Programs
pub mod Ready
pub mod SameText
pub mod Turns
mod Rows
pub mod ListedNames
pub mod Orders
