pub use Rattle.trees.specs.Types
pub use Rattle.type_parts.specs.PlainReading
pub mod TypeGrammar
pub mod TypeReading
pub mod Listings
pub mod TypeLaws
