-- How a value is given (`Given`), what a text of the form Module.Name names (`Named`), and which value the name of a
-- type and a value that is given mean (`Meant`).
pub mod Given
pub mod Named
pub mod Meant
pub use Rattle.messages.specs.front_end as front_end
pub use Rattle.messages.specs as messages
