-- What a reader has to believe: a part of a decoded value with its type, and what names say of it (`Typed`).
pub mod Typed
