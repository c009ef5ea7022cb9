-- What a reader has to believe: sets of numbers and of codes. Only contracts inside this crate, and proofs, speak of
-- `proving`.
pub mod Numbers
pub mod Codes
pub mod proving
