pub mod Units
pub mod Firsts
pub mod Finding
pub mod Tests
pub mod Shorts
