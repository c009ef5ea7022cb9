-- The rows of an account (`Flat`), and how definitions see them in memory (`Seen`). Only the type itself uses what is
-- in `proving`.
pub mod Flat
pub mod Seen
pub mod proving
