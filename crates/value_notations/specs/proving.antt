-- What the form of a notation says; and laws that upper crates use too (`Places`, `Following`,
-- `Paths`).
pub mod Forms
pub mod Opened
pub mod Next
pub mod Bits
pub mod Items
pub mod Places
pub mod Following
pub mod Paths
