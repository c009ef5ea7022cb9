-- What octets mean that a routine reads (`Saying`), and what tokens show (`TokensShow`).
pub mod TokensShow
pub mod Saying
