pub mod Places
pub mod Setting
pub mod Packing
pub mod SetBits
pub mod SetOctets
pub mod Rows
