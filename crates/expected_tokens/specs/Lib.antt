pub mod Rules
pub mod Leading
pub mod proving
