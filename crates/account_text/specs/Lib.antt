-- The text of an account (`Text`), and where octets stop being one (`Stops`). The definitions in `proving` serve the
-- proofs of this crate alone.
pub mod Stops
pub mod Text
pub mod proving
