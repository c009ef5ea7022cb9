-- Numbers in two halves (`PackedI128`), trees of values that are read (`Tree`), and the list of nodes that spells one
-- (`Nodes`), or that is spelled by one (`Spelled`). A tree while it is built (`Building`), all of them in memory
-- (`Seen`), what is shown of a value (`Kinds`), and rows of components that are filled (`Rows`).
pub mod PackedI128
pub mod Tree
pub mod Nodes
pub mod Spelled
pub mod Building
pub mod Seen
pub mod Kinds
pub mod Rows
pub mod proving
