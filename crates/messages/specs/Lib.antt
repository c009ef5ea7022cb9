pub mod Classes
pub mod Status
pub use Rattle.front_end.specs as front_end
pub use Rattle.front_end.specs.value_diagnostics as value_diagnostics
