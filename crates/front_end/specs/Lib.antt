-- The definitions that a user must believe. `Accepted` says which texts are accepted, as which program and with which
-- types. `Faults` says which fault is true of texts that aren't, and `Layers` in which order faults are reported.
-- `ValueError` says what is reported for a notation that means no value of a type, `OneReport` when two such reports
-- say the same, and `OneText` when two programs are written in the same way. The definitions in `proving` serve
-- contracts inside the crate, and proofs.
pub mod Accepted
pub mod Faults
pub mod Layers
pub mod OneReport
pub mod OneText
pub mod ValueError
pub mod proving
pub use Rattle.extensions.specs.additions as additions
pub use Rattle.constraints.specs as constraints
pub use Rattle.tagging.specs as tagging
pub use Rattle.value_diagnostics.specs as value_diagnostics
