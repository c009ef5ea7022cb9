pub use Rattle.value_text.specs.Print
pub mod Lexing
pub mod Back
