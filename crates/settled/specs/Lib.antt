-- What a reader has to believe. `Settled`: when a schema is the one that a program's modules stand for. `Parts`: what a
-- program must fulfil for that schema to be accepted.
pub mod Settled
pub mod Parts
pub use Rattle.additions.specs as additions
pub use Rattle.schema_of.specs as schema_of
pub use Rattle.spelled.specs as spelled
pub use Rattle.schema_of.specs.values as values
