pub mod SameLeaf
pub mod SameValue
pub mod Groups
pub mod Lists
pub mod Inversions
pub mod Alls
pub mod Rooted
pub mod Circles
pub mod Excluding
pub mod Opening
pub mod Leading
pub mod NamedBits
pub mod BitForms
pub mod LeafValues
pub mod Rows
mod OfShape
