-- The lines of octets (`Lines`), and what a reader of lines has left (`Remaining`).
pub mod Remaining
pub mod Lines
pub mod proving
