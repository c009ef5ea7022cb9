pub mod Asking
pub mod Running
pub mod Halting
pub mod Wholes
pub mod Smalls
pub mod Rows
pub mod Heads
