-- The definitions that a user must believe. `Kits` says what a kit is, and when texts have none. `Writing` says which
-- octets encode a named value, and when there are none; `Packing` says the same for packed encodings. `Reading` says
-- which value of a named type octets encode, and when none is read; `Unpacking` says the same for packed encodings.
-- `ErrorSites` says at which octet a message is refused. `Showing` says which lines show its headers. `Versions` says
-- how versions of a type read each other. `Headline` goes from the texts to the octets and back, and `Whole` says all
-- of it of one named value.
pub use Rattle.judging.specs.messages.Status
pub mod Headline
pub mod Kits
pub mod Packing
pub mod ErrorSites
pub mod Reading
pub mod Showing
pub mod Unpacking
pub mod Versions
pub mod Differences
pub mod Writing
pub mod Whole
pub use Rattle.judging.specs.front_end as front_end
pub use Rattle.judging.specs.messages as messages
pub use Rattle.judging.specs.named_values as named_values
pub use Rattle.type_listing.specs as type_listing
