pub mod Ends
pub mod Held
pub mod Pieces
