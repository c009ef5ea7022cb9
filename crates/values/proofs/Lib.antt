pub mod Lookups
pub mod Orders
pub mod Missings
pub mod Arrangings
pub mod Wholes
pub mod OneFault
pub mod Judgings
