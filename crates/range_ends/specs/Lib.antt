-- What a reader has to believe: the numbers that ends stand for (`Ends`), the numbers that ranges allow (`Ranges`), and
-- the characters that texts allow (`Characters`). What type ends are read for is said by its number (`Cores`). What is
-- returned for ranges (`Answers`), and which fault is reported first and where (`First`). Only contracts inside the
-- crate, and proofs, speak of `proving`.
pub mod Ends
pub mod Cores
pub mod Ranges
pub mod Characters
pub mod Answers
pub mod First
pub mod proving
