pub mod OneAnswer
pub mod OneRefusal
