-- What a reader has to believe: what names mean (`Names`), modules in their notation (`Modules`), and what they give,
-- by number (`Sources`, `ByNumber`) and as it is written (`Written`). What faults say (`Faults`), which one is first
-- (`First`), and how all that is seen in memory (`Scopes`, `Sources`). Only contracts inside the crates, and proofs,
-- speak of `proving`.
pub mod Names
pub mod Sources
pub mod Scopes
pub mod Modules
pub mod ByNumber
pub mod Faults
pub mod First
pub mod Written
pub mod proving
