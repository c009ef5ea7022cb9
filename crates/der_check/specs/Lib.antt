-- Encodings one after the other (`Units`), headers of the distinguished rules (`Heads`), and the order of a SET's
-- components (`Sets`). Where the encodings of these are (`Places`), which rule octets break, and where (`Broken`), and
-- what is decided (`Strict`).
pub mod Units
pub mod Heads
pub mod Sets
pub mod Places
pub mod Broken
pub mod Strict
