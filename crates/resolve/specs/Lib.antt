-- What a reader has to believe: what definitions see of linked modules (`Program`), names after modules' names
-- (`Qualified`) with their offsets (`Places`), the rules of sound programs and the meaning of faults (`Sound`), and
-- which fault is first (`First`).
-- The results of linking are in `Links`, those of a search for a name in `Finds`, and the names that types list in
-- `Listed`. Only contracts inside the crate
-- and proofs use what is in `proving`. `Codes` helps proofs to show that two values differ.
pub mod Program
pub mod Qualified
pub mod Places
pub mod Sound
pub mod Links
pub mod First
pub mod Finds
pub mod Listed
pub mod Codes
pub mod proving
