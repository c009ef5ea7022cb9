-- What proofs need about a reason with its name and offset.
pub mod ErrorSite
