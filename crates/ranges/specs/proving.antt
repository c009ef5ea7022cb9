-- How unions and intersections come about, and what is searched for.
pub mod Joining
pub mod Meeting
pub mod Searching
pub mod Masking
pub mod Skipping
pub mod Trees
