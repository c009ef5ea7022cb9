pub mod Given
pub mod Failing
pub mod Parts
pub mod Reads
