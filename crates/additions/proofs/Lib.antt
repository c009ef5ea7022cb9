pub mod Rising
pub mod Placing
pub mod Breaking
mod Naming
pub mod OneFault
mod Rows
