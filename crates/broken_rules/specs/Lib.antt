-- The words for a broken rule of DER (`Broken`).
pub mod Broken
