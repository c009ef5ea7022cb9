pub mod Headings
pub mod Imported
pub mod Heads
