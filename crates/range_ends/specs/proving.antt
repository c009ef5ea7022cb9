-- What only contracts inside the crate and proofs speak of.
pub mod Steps
pub mod Ways
pub mod Bounds
pub mod Far
pub mod Turning
pub mod Noted
pub mod Keys
pub mod Trees
pub mod Signs
pub mod Posting
