pub use Rattle.trees.specs.Values
pub use Rattle.trees.specs.Constraints
pub mod Value
pub mod ConstraintGrammar
pub mod Reading
pub mod ConstraintReading
pub mod Answer
pub mod Laws
