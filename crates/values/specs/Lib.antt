-- What a reader has to believe: when the names of fields are arranged like those of components (`Arranged`), and what
-- constraints of a type allow (`Allowing`). Contracts inside this crate, and proofs, speak of `proving`. Of it,
-- `Judging` says in the contract of `is_allowed` what is allowed and what is excluded.
pub mod Arranged
pub mod Allowing
pub mod proving
pub use Rattle.constraints.specs as constraints
