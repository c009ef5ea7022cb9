-- What a reader has to believe. `Faults`: what is wrong with a notation that stands for no value of a type, and where.
-- `Known`: what a table says of DEFAULTs. `Chains`: what it says of chains of names. Values are those of the crates
-- below.
pub mod Chains
pub mod Faults
pub mod Known
pub mod Laws
pub mod proving
pub use Rattle.values.specs.constraints as constraints
