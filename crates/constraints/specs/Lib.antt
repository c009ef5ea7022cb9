-- The definitions that a user must believe. They say what constraints mean by themselves (`Constraints`), and what
-- those of a type allow (`Allowed`). They also say in which programs all constraints have a meaning (`Bounded`), what
-- faults mean (`Faults`), and which fault is reported first, and where (`First`). `Tables` says what an owner of
-- modules keeps beside them. The definitions in `proving` serve contracts inside the crate, and proofs.
pub mod Constraints
pub mod Allowed
pub mod Bounded
pub mod Tables
pub mod Faults
pub mod First
pub mod proving
