pub mod Steps
pub mod AllKinds
