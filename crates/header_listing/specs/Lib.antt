-- The definitions that a user must believe. `Shown` says which lines show the headers of octets, `Lines` which text
-- these lines are, and `Listing` joins the two. `Words` has the words for tags and kinds of types. The definitions in
-- `proving` serve contracts inside the crate, and proofs.
pub mod Shown
pub mod Lines
pub mod Listing
pub mod Words
pub mod proving
