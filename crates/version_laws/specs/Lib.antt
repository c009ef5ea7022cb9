-- What a reader of an earlier version returns for an encoding of a later one (`Versions`), and what a value of the
-- earlier version is under the later type (`Lifted`). How many additions a packed encoding has that the earlier type
-- lacks (`LeftOut`).
pub mod Versions
pub mod Lifted
pub mod LeftOut
