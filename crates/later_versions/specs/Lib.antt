-- The definitions that a user must believe. They say what an older version keeps of a value (`Projected`), when a type
-- is a
-- later version of another one (`Later`), and where and why it is none (`Differences`), and the text that says so
-- (`DifferenceText`). The definitions in `proving` serve contracts inside the crate, and proofs.
pub mod Projected
pub mod Later
pub mod Differences
pub mod DifferenceText
pub mod proving
