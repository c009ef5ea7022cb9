pub mod Numbers
pub mod Progress
