pub mod Typing
pub mod TypeSteps
pub mod TypeGrows
pub mod Flattening
pub mod Loop
pub mod Begins
