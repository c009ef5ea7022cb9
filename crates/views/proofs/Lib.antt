pub mod Ranges
pub mod Steps
pub mod Fronts
pub mod Readings
pub mod Shown
pub mod Filled
pub mod Borrowed
