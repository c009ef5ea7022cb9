pub mod Running
pub mod Code
pub mod Plans
