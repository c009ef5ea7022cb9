pub mod Leaves
pub mod Refused
pub mod Arcs
pub mod proving
