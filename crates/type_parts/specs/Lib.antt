pub use Rattle.trees.specs.Types
pub mod PlainGrammar
pub mod PlainReading
pub mod PartLaws
pub mod TypeLexemes
pub mod TypeWords
pub mod TypeParts
pub mod Shorts
