-- What a reader has to believe: when the types of a schema are those of a program (`SchemaOf`).
pub mod SchemaOf
pub use Rattle.values.specs as values
