pub mod Message
pub mod proving
