-- What a reader has to believe: following references (`Walks`), written types and their unfolding (`Table`), the number
-- of each type (`Numbering`), and the numbers of items (`Items`). The rules of lists are in `Lists`, the meaning of
-- faults in `Faults` and `ListFaults`, which one of a list is first in `FirstInList`, and how definitions see memory in
-- `Seen`. Only contracts inside the crates and proofs use what is in `proving`.
pub mod Walks
pub mod Table
pub mod Seen
pub mod Numbering
pub mod Items
pub mod Lists
pub mod Written
pub mod Faults
pub mod ListFaults
pub mod FirstInList
pub mod proving
pub use Rattle.asn_base.specs as asn_base
pub use Rattle.names.specs as names
pub use Rattle.trees.specs as trees
