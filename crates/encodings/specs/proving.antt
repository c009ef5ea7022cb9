-- What only contracts inside the crates, and proofs, speak of: laws that upper crates use.
pub mod Weaker
pub mod Placing
pub mod TwosComplement
pub mod Fronts
pub mod Marked
pub mod Septets
pub mod LeafForms
pub mod LastRuns
pub mod Digits
pub mod Lengths
