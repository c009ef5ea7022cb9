-- A user must believe `Circles`. The definitions in `proving` serve contracts inside the crate, and proofs.
pub mod Circles
pub mod proving
