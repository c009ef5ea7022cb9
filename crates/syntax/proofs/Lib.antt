pub mod Assigning
pub mod Assigned
pub mod Parsed
pub mod ModuleText
