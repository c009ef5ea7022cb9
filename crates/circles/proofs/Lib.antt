pub mod Circling
pub mod Marking
pub mod Rising
