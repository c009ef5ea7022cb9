-- What a reader has to believe: how types are spelled in the notation (`Written`), and in a table (`Spelled`).
pub mod Written
pub mod Spelled
