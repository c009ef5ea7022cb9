-- What a reader has to believe: which notations stand for which values under a type (`References`, `Leaves`,
-- `Notations`), and what values of a type are (`Values`). `Wrong` says why a notation stands for no value, and
-- `Outside` why it stands for no value of the type. `Written` says where notations are in the text, and `Faults` what
-- faults mean (X.680, clauses 17 to 33, 41 and 51). Only contracts inside this crate and proofs use what is in
-- `proving`.
pub mod References
pub mod Leaves
pub mod Notations
pub mod Values
pub mod Wrong
pub mod Outside
pub mod Written
pub mod Faults
pub mod proving
