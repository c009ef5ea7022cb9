-- The tokens of a decoded message and the value that it encodes (`Messages`), and the values that are open after some
-- tokens (`Opened`), while none is kept (`Followed`). `Paths` has the ways to a value that begins, and `Stops` the
-- places where decoding stops. What decoders return (`Readings`), what the steps of a routine read (`Stepped`), and
-- which fault decoders report for a message whose value isn't one of the type (`Judged`).
pub mod Messages
pub mod Opened
pub mod Paths
pub mod Followed
pub mod Stops
pub mod Readings
pub mod Judged
pub mod Stepped
