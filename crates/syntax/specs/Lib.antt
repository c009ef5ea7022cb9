pub use Rattle.trees.specs.Types
pub use Rattle.trees.specs.Modules
pub use Rattle.module_head.specs.Heading
pub use Rattle.type_syntax.specs.TypeGrammar
pub mod Syntax
pub mod Reading
pub mod ModuleReading
