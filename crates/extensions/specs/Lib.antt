-- What a reader has to believe: that each DEFAULT and each value assignment is typed, and which schema a program has
-- that keeps all rules (`SchemaOfModules`). The meaning of faults is in `Faults`. Only contracts inside the crate and
-- proofs use what is in `proving`.
pub mod SchemaOfModules
pub mod Faults
pub mod proving
pub use Rattle.settled.specs.additions as additions
pub use Rattle.settled.specs.schema_of as schema_of
pub use Rattle.settled.specs.spelled as spelled
pub use Rattle.settled.specs.values as values
