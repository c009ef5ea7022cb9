pub mod Tokens
pub mod Stack
pub mod Sets
pub mod Writing
