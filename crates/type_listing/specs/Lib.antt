-- The definitions that a user must believe: `Listing` has the text that lists types.
pub mod Listing
