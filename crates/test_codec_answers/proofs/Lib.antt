pub mod ViewRows
pub mod WrittenRows
