-- The definitions that a user must believe. They say what extension markers require of the members of lists and of the
-- items of enumerations, and how one breaks it (`Additions`). They also say what faults mean (`Faults`), and where the
-- first one is (`First`). The definitions in `proving` serve contracts inside the crate, and proofs.
pub mod Additions
pub mod Faults
pub mod First
pub mod proving
