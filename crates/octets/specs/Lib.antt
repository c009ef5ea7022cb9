pub mod Forms
pub mod Adds
pub mod Fronts
pub mod Scans
pub mod proving
