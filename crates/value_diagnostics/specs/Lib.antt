pub mod Diagnosed
pub mod proving
pub use Rattle.typed_values.specs as typed_values
