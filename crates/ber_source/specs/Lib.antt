-- What contents octets mean (`PrimitiveValue`), and a cursor in memory, as the state that it represents (`Seen`). What
-- is read at once (`ShortValue`, `Rows`), and what a cursor guarantees as a source (`Laws`).
-- Which node a view has for a value of each type (`Shapes`), how contents octets are shown (`Shown`), and how a view is
-- built of tokens (`Wants`). The tokens that were received so far are in `Log`, and the view that is built of them in
-- `ViewSink`. `Fits` says which tokens are of values of their types.
pub mod PrimitiveValue
pub mod Seen
pub mod ShortValue
pub mod Rows
pub mod Laws
pub mod Shapes
pub mod Shown
pub mod Wants
pub mod Log
pub mod Fits
pub mod ViewSink
pub mod proving
