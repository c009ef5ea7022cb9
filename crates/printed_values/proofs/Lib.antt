pub mod Leaves
pub mod Items
pub mod Lists
pub mod Notations
