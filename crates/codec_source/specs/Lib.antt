-- The questions to a source (`Events`), what a routine reads (`Reading`), values that are read at once (`Small`), and
-- where a routine stops (`Stopping`).
pub mod Events
pub mod Reading
pub mod Small
pub mod Stopping
pub mod proving
