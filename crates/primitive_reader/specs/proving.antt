pub mod Spelled
pub mod Numbers
pub mod Zeros
pub mod Adding
pub mod Shortest
