pub mod Frames
pub mod Waiting
pub mod Wholes
