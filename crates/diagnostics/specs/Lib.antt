-- What a user must believe of the line of a fault: how it begins (`Heading`), where a fault is (`Locations`), the words
-- for a place (`Places`), and what follows the number and the name of a fault (`Reports`).
pub mod Heading
pub mod Locations
pub mod Places
pub mod Reports
pub use Rattle.messages.specs.front_end as front_end
pub use Rattle.messages.specs as messages
