pub mod BitPieces
pub mod Contents
pub mod Digits
pub mod Octet
pub mod One
pub mod Signed
pub mod TwosComplement
